-- `storage::sheet_of` meets its contract: the cells by q alone, and the least width for the memory and w - 1.
use Rattle.integers.proofs.Sizes.{back32}
use Rattle.storage.proofs.Memories.{ones_next}
use Rattle.storage.proofs.sheet_of.Goals as goal

pub overflow_sub-most : goal.overflow_sub-most
overflow_sub-most c = ones_next _ _

pub returns : goal.returns
returns c =
    let v = c.args.v in
    (c.cell_count.ensures, rw (back32 v.register.memory v.valid.memory) at c.signed_width.ensures)
