use native.Mathlib.Omega.{arith}
use mathlib.Core.Path.{refl, sym, ap, subst, ◌∙◌}
use Prim.Native.Nat.{ℕ, ◌+◌}
use Rattle.tree.specs.Rose.{end_of}
use Rattle.reads.specs.Bytes.{PatternAt}
use Rattle.reads.specs.Parts.{pattern-fits}
use Rattle.reads.specs.Places.{begun, turn, turned}
use Rattle.reads.specs.Subs.{pattern-members}
use Rattle.reads.proofs.Widening.{Widening, width-var, width-start, width-sub, width-more, width-done, width_room}
use Rattle.reads.proofs.width.+pattern_width.Goals as goal

pub bounds-b-q : goal.bounds-b-q
bounds-b-q t c = let b = c.args.b.now in let s = c.requires in omega (arith, pattern-fits b s.0 _ s.1)

pub returns-then-tag : goal.returns-then-tag
returns-then-tag t c = (width-var c.args.b.now _ c.if-tag.true, omega arith)

pub overflow_add-q : goal.overflow_add-q
overflow_add-q t c = let b = c.args.b.now in let s = c.requires in omega (arith, pattern-fits b s.0 _ s.1)

pub end_of-requires : goal.end_of-requires
end_of-requires t c = let b = c.args.b.now in let s = c.requires in pattern-fits b s.0 _ s.1

pub loop-p-init : goal.loop-p-init
loop-p-init t c =
    let b = c.args.b.now in
    let q = c.args.q in
    let s = c.requires in
    let f = c.fields-p-items.ensures in
    let i = begun b (q + 3) (end_of b q) _ c.into_iter-p-iterator.result c.into_iter-p-iterator.ensures.into_iter_gives (f.0, f.1, f.2 ∙ c.end_of.ensures)
    (pattern-fits b s.0 _ s.1) (pattern-members b q c.if-tag.false s.0 s.1) in
    (i.0, i.1, subst (λ (n : ℕ). Widening b q (end_of b q) n 3) i.2 (width-start b q (end_of b q) refl c.if-tag.false))

pub sub_pattern-requires : goal.sub_pattern-requires
sub_pattern-requires t c =
    let b = c.args.b.now in
    let q = c.args.q in
    let s = c.requires in
    let y = turn c.loop-p.p-iterator c.next.new.self c.loop-p.invariant.1 c.in-Some.ensures.steps c.in-Some.ensures.goes.keeps in
    let v = subst (λ (n : ℕ). Widening b q (end_of b q) n c.loop-p.w) y.here c.loop-p.invariant.2 in
    let g = width-sub b q (end_of b q) _ _ v s.0 s.1 y.within in
    g.1.key

pub pattern_width-requires : goal.pattern_width-requires
pattern_width-requires t c =
    let b = c.args.b.now in
    let q = c.args.q in
    let s = c.requires in
    let y = turn c.loop-p.p-iterator c.next.new.self c.loop-p.invariant.1 c.in-Some.ensures.steps c.in-Some.ensures.goes.keeps in
    let v = subst (λ (n : ℕ). Widening b q (end_of b q) n c.loop-p.w) y.here c.loop-p.invariant.2 in
    let g = width-sub b q (end_of b q) _ _ v s.0 s.1 y.within in
    let e = c.sub_pattern.ensures in
    (omega (arith, e, g.1.low, g.1.high, g.1.fits, v.room), (g.0, subst (λ (n : ℕ). PatternAt b g.0 n) (sym e) g.1.at))

pub overflow_add-w : goal.overflow_add-w
overflow_add-w t c =
    let b = c.args.b.now in
    let q = c.args.q in
    let s = c.requires in
    let y = turn c.loop-p.p-iterator c.next.new.self c.loop-p.invariant.1 c.in-Some.ensures.steps c.in-Some.ensures.goes.keeps in
    let v = subst (λ (n : ℕ). Widening b q (end_of b q) n c.loop-p.w) y.here c.loop-p.invariant.2 in
    let g = width-sub b q (end_of b q) _ _ v s.0 s.1 y.within in
    omega (arith, c.pattern_width.ensures.1, g.1.high, g.1.fits, ap (λ (n : ℕ). end_of b n) c.sub_pattern.ensures)

pub overflow_add-w-in-loop-p : goal.overflow_add-w-in-loop-p
overflow_add-w-in-loop-p t c =
    let b = c.args.b.now in
    let q = c.args.q in
    let s = c.requires in
    let y = turn c.loop-p.p-iterator c.next.new.self c.loop-p.invariant.1 c.in-Some.ensures.steps c.in-Some.ensures.goes.keeps in
    let v = subst (λ (n : ℕ). Widening b q (end_of b q) n c.loop-p.w) y.here c.loop-p.invariant.2 in
    let g = width-sub b q (end_of b q) _ _ v s.0 s.1 y.within in
    omega (arith, c.pattern_width.ensures.1, g.1.high, g.1.fits, g.1.low, c.sub_pattern.ensures, ap (λ (n : ℕ). end_of b n) c.sub_pattern.ensures, v.room)

pub loop-p-preserved : goal.loop-p-preserved
loop-p-preserved t c =
    let b = c.args.b.now in
    let q = c.args.q in
    let s = c.requires in
    let y = turn c.loop-p.p-iterator c.next.new.self c.loop-p.invariant.1 c.in-Some.ensures.steps c.in-Some.ensures.goes.keeps in
    let v = subst (λ (n : ℕ). Widening b q (end_of b q) n c.loop-p.w) y.here c.loop-p.invariant.2 in
    let g = width-sub b q (end_of b q) _ _ v s.0 s.1 y.within in
    let e = c.sub_pattern.ensures in
    let m = width-more b q (end_of b q) _ _ _ _ _ v y.within y.next (λ x w. c.pattern_width.ensures.0 x (subst (λ (n : ℕ). PatternAt b x n) (sym e) w))
    (omega (arith, c.pattern_width.ensures.1, g.1.high, g.1.low, e, ap (λ (n : ℕ). end_of b n) e)) refl in
    (c.in-Some.ensures.goes.keeps, y.over, m)

pub returns : goal.returns
returns t c =
    let b = c.args.b.now in
    let q = c.args.q in
    let s = c.requires in
    let i = c.loop-p.invariant in
    let l = turned c.loop-p.p-iterator c.next.new.self i.1 c.in-None.ensures.steps in
    (width-done b q (end_of b q) _ _ i.2 l, width_room b q (end_of b q) _ _ i.2 s.0 s.1)
