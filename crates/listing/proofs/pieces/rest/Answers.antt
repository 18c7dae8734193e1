-- `listing::pieces::rest` meets its contract: loading a pair inside the limits is not refused, and its register is valid.
use Rattle.std.proofs.Common.{append_assoc, rules, SFits, w32}
use mir.ValLaws.{to_z-of_z}
use Rattle.listing.proofs.Refusals.{into_valid, load_not_refused}
use Rattle.listing.proofs.Rows.{rest_text}
use Rattle.listing.proofs.pieces.rest.Goals as goal

pub invariant_of-v : goal.invariant_of-v
invariant_of-v c = record { valid = into_valid c.in-Ok.ensures }

pub returns-in-Ok : goal.returns-in-Ok
returns-in-Ok c =
    let small : SFits w32 c.args.pair.p = search rules in
    (_, rest_text c.in-Ok.ensures c.way.ensures.1, rw (c.way.ensures.2, c.registered.ensures.text, to_z-of_z w32 c.args.pair.p small) (simp append_assoc))

pub returns-in-Err : goal.returns-in-Err
returns-in-Err c = absurd (load_not_refused c.requires.1 c.load.ensures c.in-Err.is)
