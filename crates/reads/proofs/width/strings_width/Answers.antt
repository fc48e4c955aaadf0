-- `strings_width` meets its contract. Assumes nothing.
use Rattle.tree.specs.Rose.{row-le}
use Rattle.reads.proofs.Partings.{row_next, strings-none, strings-first, strings-one, strings-many, strings-room}
use native.Mathlib.Omega.{arith}
use mathlib.Core.Path.{sym, ◌∙◌}
use Rattle.reads.proofs.width.strings_width.Goals as goal

pub end_of-requires : goal.end_of-requires
end_of-requires c = let a = c.args in let b = a.b.now in let s = c.requires in omega (arith, s.0, row_next b _ _ _ s.1.1 c.if-q-z.true)

pub string_width-requires : goal.string_width-requires
string_width-requires c = let a = c.args in let b = a.b.now in let s = c.requires in strings-first b _ _ c.if-q-z.true s.1.0 s.1.1

pub returns-then-end_of-z : goal.returns-then-end_of-z
returns-then-end_of-z c = let a = c.args in let b = a.b.now in let s = c.requires in let e = sym c.end_of.ensures ∙ c.if-end_of-z.true in (strings-one b _ _ _ c.if-q-z.true e c.string_width.ensures.0, omega (arith, e, c.string_width.ensures.1))

pub returns-then-q-z : goal.returns-then-q-z
returns-then-q-z c = let a = c.args in let b = a.b.now in let s = c.requires in (strings-many b _ _ c.if-q-z.true (λ e. c.if-end_of-z.false (c.end_of.ensures ∙ e)), omega (arith, strings-room b _ _ c.if-q-z.true (λ e. c.if-end_of-z.false (c.end_of.ensures ∙ e)) s.1.0 s.1.1))

pub returns : goal.returns
returns c = let a = c.args in let b = a.b.now in let s = c.requires in (strings-none b _ _ c.if-q-z.false, omega (arith, row-le b _ _ _ s.1.1))
