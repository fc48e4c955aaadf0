-- `Source::list_tokens` meets its contract: out of the scratch, or by a second reading. Assumes nothing.
use mathlib.Core.Path.{sym, ap, ◌∙◌}
use mathlib.Core.List.{List}
use Prim.Native.Nat.{ℕ}
use native.Mathlib.Omega.{arith}
use lib.Seq.{length-take-le}
use Rattle.fields.specs.Room.{overlay}
use Rattle.lexer.proofs.Entries.{told-short, told, never, tokens-hold}
use Rattle.lexer.proofs.Source.list_tokens.Goals as goal

pub returns-then-size-out : goal.returns-then-size-out
returns-then-size-out c =
    let p = c.requires in
    told-short _ _ _ _ _ p.0 p.1 (omega arith)

pub slice_bounds-put-end : goal.slice_bounds-put-end
slice_bounds-put-end c = sym (length-take-le _ _ (omega arith))

pub put-requires : goal.put-requires
put-requires c =
    let a = c.args in
    omega (arith, length-take-le a.size a.scratch.now (omega arith))

pub returns-then-size-scratch : goal.returns-then-size-scratch
returns-then-size-scratch c =
    let a = c.args in
    let p = c.requires in
    let l = c.put.ensures.1 ∙ ap (λ (x : List ℕ). overlay a.out.now 0 x) (p.3 c.if-size-scratch.true) in
    told _ _ _ _ _ p.0 p.1 _ (omega arith) p.2 l

pub returns-in_ok-whole : goal.returns-in_ok-whole
returns-in_ok-whole c =
    let p = c.requires in
    told _ _ _ _ _ p.0 p.1 _ (omega arith) p.2 (tokens-hold _ _ _ _ _ _ c.in_ok-whole.ensures).room

pub returns-in_err-whole : goal.returns-in_err-whole
returns-in_err-whole c = absurd (never _ _ _ _ _ _ _ _ c.requires.0 c.in_err-whole.ensures)
