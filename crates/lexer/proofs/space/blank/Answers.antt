-- `space::blank` meets its contract: an ASCII byte by the table of White_Space, any other character by its code. Assumes nothing.
use mathlib.Core.Path.{sym}
use Rattle.std.proofs.Common.{arith}
use Rattle.std.proofs.lemmas.Grind.{common_steps}
use Rattle.text.specs.Space.{white_space, spaces}
use Rattle.lexer.proofs.Blanks.{no-space, a-space, wide-space, wide-some, no-wide, none-wide}
use borrow.Author.Rules.{rules}
use Rattle.lexer.proofs.space.blank.Goals as goal

pub returns-in_default : goal.returns-in_default
unfolding white_space spaces
returns-in_default c = sym (no-space _ _ _ c.byte_at.ensures (omega arith) c.requires (grind (arith, common_steps))).0

pub returns-in_default-2 : goal.returns-in_default-2
unfolding white_space spaces
returns-in_default-2 c = sym (no-space _ _ _ c.byte_at.ensures (omega arith) c.requires (grind (arith, common_steps))).0

pub returns-in-9-to-13 : goal.returns-in-9-to-13
unfolding white_space spaces
returns-in-9-to-13 c =
    let x = a-space _ _ _ c.byte_at.ensures (omega arith) c.requires (grind (arith, common_steps)) (omega arith) in
    (x.0, omega arith, x.1)

pub returns-in-9-to-13-2 : goal.returns-in-9-to-13-2
unfolding white_space spaces
returns-in-9-to-13-2 c =
    let x = a-space _ _ _ c.byte_at.ensures (omega arith) c.requires (grind (arith, common_steps)) (omega arith) in
    (x.0, omega arith, x.1)

pub returns-in-Some : goal.returns-in-Some
returns-in-Some c =
    let x = wide-space _ _ _ c.in-Some.ensures (sym c.if-white_space.ensures) (search rules) in
    (x.0, wide-some c.args.s.now c.args.at c.in-Some.c c.in-Some.ensures, x.1)

pub returns-in_default-char_at : goal.returns-in_default-char_at
returns-in_default-char_at c = sym (no-wide _ _ _ c.in-Some.ensures (sym c.if-white_space.ensures) (search rules)).0

pub returns-in_default-char_at-2 : goal.returns-in_default-char_at-2
returns-in_default-char_at-2 c = sym (none-wide _ _ c.in_default-char_at.ensures (search rules)).0
