-- `places::append_bits` meets its contract: two stores put the count, and adding bits puts their number into the 512 bytes behind it.
use Rattle.places.proofs.Laws.{part_fits, put_part}
use Rattle.places.proofs.append_bits.Goals as goal

pub add_bits-requires : goal.add_bits-requires
add_bits-requires c = part_fits _ _ _ _ _ c.requires c.to_be_bytes.ensures

pub returns : goal.returns
returns c = put_part c.args.store.now c.args.at c.args.have c.args.payload.now c.args.count c.requires c.to_be_bytes.ensures _ c.add_bits.ensures
