-- `tree::numbered`: the modules from the loop's place on and main are right exactly if all are. Assumes nothing.
use Prim.Native.Nat.{◌+◌, ◌-◌, ◌≤◌, ◌<◌, ◌^◌}
use native.Mathlib.Omega.{arith}
use lib.ListN.{length}
use mathlib.Core.Logic.{inl}
use mathlib.Core.Path.{◌≡◌, ◌∙◌, sym, ap, subst}
use Rattle.std.specs.Iterator.Adapters.{enumerate_source, enumerate_count}
use Rattle.tree.specs.Places.{begun, turn, turned, row-chain}
use Rattle.tree.proofs.Using.{Left, left-start, left-next, left-wrong, left_end, left-moved, next_of}
use Rattle.tree.proofs.numbered.Goals as goal

pub loop-m-init : goal.loop-m-init
loop-m-init c =
    let b = c.args.b.now in
    let f = c.fields.ensures in
    let e = c.enumerate-m-items.ensures in
    let g = c.into_iter-m-iterator.ensures.into_iter_gives in
    let s = c.into_iter-m-iterator.result in
    let l : length b ≤ length b = omega arith in
    let i = begun b c.modules-first.result (length b) c.fields.result s.iter (ap enumerate_source g ∙ e.source) (f.0 ∙ c.bytes.ensures, f.1, f.2 ∙ c.len.ensures.0) l (row-chain b _ _ _ (c.modules-first.ensures c.requires.0 c.requires.1)) in
    let k : s.count ≡ 0 = ap enumerate_count g ∙ e.count in
    let n : s.count + (s.iter.end - s.iter.at) < 2 ^ 64 = omega (arith, k, i.1.1, c.len.ensures) in
    ((i.0, tt, inl n), i.1, λ t h. left-moved b t i.2 (sym k) (left-start b t _ (c.modules-first.ensures t h)))

pub uses_ok-requires : goal.uses_ok-requires
uses_ok-requires c =
    let b = c.args.b.now in
    let o = c.in-Some.ensures.steps in
    let y = turn c.loop-m.m-iterator.iter c.next.new.self.iter c.loop-m.invariant.1 o.0 c.in-Some.ensures.goes.keeps.0 in
    let n = next_of b c.requires.0 _ _ (left-moved b c.requires.0 y.here (sym o.1) (c.loop-m.invariant.2 c.requires.0 c.requires.1)) y.within in
    (n.uses, n.has)

pub returns-then-not-uses_ok : goal.returns-then-not-uses_ok
returns-then-not-uses_ok c =
    let b = c.args.b.now in
    let o = c.in-Some.ensures.steps in
    let y = turn c.loop-m.m-iterator.iter c.next.new.self.iter c.loop-m.invariant.1 o.0 c.in-Some.ensures.goes.keeps.0 in
    λ t h.
    left-wrong b t _ _ (left-moved b t y.here (sym o.1) (c.loop-m.invariant.2 t h)) y.within (λ u x. sym c.if-not-uses_ok.true ∙ c.uses_ok.ensures u x)

pub loop-m-preserved : goal.loop-m-preserved
loop-m-preserved c =
    let b = c.args.b.now in
    let o = c.in-Some.ensures.steps in
    let y = turn c.loop-m.m-iterator.iter c.next.new.self.iter c.loop-m.invariant.1 o.0 c.in-Some.ensures.goes.keeps.0 in
    let k : c.in-Some.m + 1 ≡ c.next.new.self.count = omega (arith, o.1, o.2) in (
      c.in-Some.ensures.goes.keeps,
      y.over,
      λ t h.
          subst (Left b t c.next.new.self.iter.at) k (left-next b t _ _ (left-moved b t y.here (sym o.1) (c.loop-m.invariant.2 t h)) y.within _ y.next (λ u x. sym c.if-not-uses_ok.false ∙ c.uses_ok.ensures u x)),
    )

pub returns : goal.returns
returns c =
    let l = turned c.loop-m.m-iterator.iter c.next.new.self.iter c.loop-m.invariant.1 c.in-None.ensures.steps.0 in
    λ t h. left_end c.args.b.now t _ _ (c.loop-m.invariant.2 t h) l
