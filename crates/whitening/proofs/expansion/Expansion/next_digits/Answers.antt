-- `whitening::Expansion::next_digits` meets its contract: a turn of the expansion.
use Rattle.whitening.proofs.Carrying.{width, turned}
use Rattle.whitening.proofs.expansion.Expansion.next_digits.Goals as goal

pub overflow_sub-self-2 : goal.overflow_sub-self-2
overflow_sub-self-2 g c = rw (width g.row.N c.requires.1) (turned c.self.inside g.row.N c.requires.0 c.requires.1 c.self.invariant).room

pub invariant_of-self : goal.invariant_of-self
invariant_of-self g c = rw (width g.row.N c.requires.1) (turned c.self.inside g.row.N c.requires.0 c.requires.1 c.self.invariant).carries

pub returns-clause-digits : goal.returns-clause-digits
returns-clause-digits g c = rw (width g.row.N c.requires.1, ← c.self.view_is) (turned c.self.inside g.row.N c.requires.0 c.requires.1 c.self.invariant).digits

pub returns-clause-left : goal.returns-clause-left
returns-clause-left g c = rw (width g.row.N c.requires.1, ← c.self.view_is) (turned c.self.inside g.row.N c.requires.0 c.requires.1 c.self.invariant).left
