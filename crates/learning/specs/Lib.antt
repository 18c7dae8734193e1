-- The root of the specs: Learning has what `learn` answers, Steps what its private functions promise one another.
pub mod Learning
pub mod Steps
