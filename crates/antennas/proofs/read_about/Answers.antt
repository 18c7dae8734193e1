-- `antennas::read_about` meets its contract: one case of the request's rule for each answer of the two forms.
use mathlib.Core.Path.{sym, ◌∙◌}
use Rattle.antennas.specs.Antennas.{by_first, by_second, neither}
use Rattle.antennas.proofs.read_about.Goals as goal

pub returns-in_default : goal.returns-in_default
returns-in_default c = by_first (sym c.form_of.ensures ∙ c.in_default.is) c.ask.ensures

pub returns-in-Ok : goal.returns-in-Ok
returns-in-Ok c = by_second (sym c.form_of.ensures ∙ c.in-Err.is) (sym c.form_of-2.ensures ∙ c.in-Ok.is) c.ask-in-Ok.ensures

pub returns-in-Err-form_of : goal.returns-in-Err-form_of
returns-in-Err-form_of c = neither (sym c.form_of.ensures ∙ c.in-Err.is) (sym c.form_of-2.ensures ∙ c.in-Err-form_of.is)
