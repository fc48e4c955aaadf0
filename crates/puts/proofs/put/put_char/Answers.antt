-- `put::put_char` meets its contract: after i turns the first i bytes of the character stand behind the length. Assumes nothing.
use mathlib.Core.Path.{sym}
use Prim.Native.Nat.{◌+◌}
use native.Mathlib.Omega.{arith}
use Rattle.fields.specs.Room.{overlay-none}
use Rattle.text.specs.Utf8.{utf8}
use Rattle.puts.specs.Runs.{utf8-few}
use Rattle.puts.proofs.Chars.{put_byte, put_all}
use borrow.Author.Rules.{rules}
use Rattle.puts.proofs.put.put_char.Goals as goal

pub loop-i-init : goal.loop-i-init
loop-i-init c = (sym (overlay-none _ _), search rules)

pub overflow_add-o-in-loop-i-2 : goal.overflow_add-o-in-loop-i-2
overflow_add-o-in-loop-i-2 c = omega (arith, utf8-few c.args.c, c.utf8_len-l.ensures, c.loop-i-test.true)

pub loop-i-preserved : goal.loop-i-preserved
loop-i-preserved c =
    let a = c.args in
    let v = c.loop-i.invariant in
    (put_byte _ _ _ (utf8 a.c) (a.o + 3) _ _ _ c.utf8_len-l.ensures c.loop-i-test.true v.0 c.put1-in-loop-i.ensures c.utf8_byte.ensures, search rules)

pub returns : goal.returns
returns c =
    let a = c.args in
    put_all a.out.now _ _ _ (utf8 a.c) a.o 0x55 _ _ c.put1.ensures c.put_number.ensures c.utf8_len-l.ensures c.loop-i-test.false c.loop-i.invariant.0
