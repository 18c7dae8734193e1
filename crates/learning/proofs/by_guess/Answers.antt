-- `learning::by_guess` meets its contract: a pair inside the limits that fits is the guess, as a fraction, so the guess is the answer or there is none.
use Rattle.learning.proofs.Guesses.{guessed_none, guessed}
use Rattle.learning.proofs.by_guess.Goals as goal

pub returns-in_err-x : goal.returns-in_err-x
returns-in_err-x c = rw c.from_residual.ensures (guessed_none c.args.bytes.now c.args.n c.requires.0 c.first61.ensures.0 c.euclid.ensures c.in_err-x.ensures)

pub returns : goal.returns
returns c = rw c.then_some.ensures (guessed c.args.bytes.now c.args.n c.requires.0 c.first61.ensures.0 c.euclid.ensures c.in_ok-x.ensures c.fits.result c.fits.ensures)
