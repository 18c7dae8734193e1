-- The laws: Lining on lines one behind another, Printing on what is printed and that it is determined.
pub mod Lining
pub mod Printing
