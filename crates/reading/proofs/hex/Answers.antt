-- `reading::hex` meets its contract: after i turns the digits of the first i bytes are written.
use native.Mathlib.Omega.{arith}
use Rattle.std.proofs.Common.{append-nil, sym, length-append}
use Rattle.std.proofs.lemmas.Str.{encode_ascii}
use Rattle.reading.specs.Line.{hex_of}
use Rattle.reading.proofs.Digits.{hexing_room, hexing_more}
use Rattle.reading.proofs.hex.Goals as goal

pub loop-byte-init : goal.loop-byte-init
unfolding hex_of
loop-byte-init c = sym (append-nil _)

pub push-requires : goal.push-requires
push-requires c =
    let room = hexing_room c.args.out.now.bytes c.loop-byte.out.bytes c.args.bytes.now c.loop-byte.byte-index c.loop-byte-test.true c.loop-byte.invariant c.requires in
    (omega arith, rw (encode_ascii c.digit.result c.digit.ensures.ascii) (omega (arith, room)))

pub push-requires-in-loop-byte : goal.push-requires-in-loop-byte
push-requires-in-loop-byte c =
    let room = hexing_room c.args.out.now.bytes c.loop-byte.out.bytes c.args.bytes.now c.loop-byte.byte-index c.loop-byte-test.true c.loop-byte.invariant c.requires in
    (omega arith, rw (encode_ascii c.digit-in-loop-byte.result c.digit-in-loop-byte.ensures.ascii, c.push.ensures.ascii c.digit.ensures.ascii, length-append) (omega (arith, room)))

pub loop-byte-preserved : goal.loop-byte-preserved
loop-byte-preserved c =
    hexing_more _ _ _ _ _ c.loop-byte-test.true c.loop-byte.invariant (c.push.ensures.ascii c.digit.ensures.ascii) c.digit.ensures.value
    (c.push-in-loop-byte.ensures.ascii c.digit-in-loop-byte.ensures.ascii) c.digit-in-loop-byte.ensures.value
