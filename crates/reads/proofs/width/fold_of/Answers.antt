-- `fold_of` meets its contract. Assumes nothing.
use native.Mathlib.Omega.{arith}
use mathlib.Core.Path.{refl, ◌∙◌}
use mathlib.Core.Logic.{inl, inr}
use Rattle.reads.proofs.Owns.{fold-places, fold-is}
use Rattle.reads.proofs.Partings.{row_next}
use Rattle.reads.proofs.width.fold_of.Goals.{then-a-lt2, else-a-lt2}
use Rattle.reads.proofs.width.fold_of.Goals as goal

pub overflow_add-p : goal.overflow_add-p
overflow_add-p c = let a = c.args in let b = a.b.now in let s = c.requires in let f = fold-places b _ s.1 _ _ _ _ refl refl refl refl s.0.0 s.0.1 in omega (arith, f.name)

pub end_of-x-requires : goal.end_of-x-requires
end_of-x-requires c = let a = c.args in let b = a.b.now in let s = c.requires in let f = fold-places b _ s.1 _ _ _ _ refl refl refl refl s.0.0 s.0.1 in f.name

pub end_of-q-requires : goal.end_of-q-requires
end_of-q-requires c = let a = c.args in let b = a.b.now in let s = c.requires in let f = fold-places b _ s.1 _ _ _ _ c.end_of-x.ensures refl refl refl s.0.0 s.0.1 in f.source

pub end_of-i-requires : goal.end_of-i-requires
end_of-i-requires c = let a = c.args in let b = a.b.now in let s = c.requires in let f = fold-places b _ s.1 _ _ _ _ c.end_of-x.ensures c.end_of-q.ensures refl refl s.0.0 s.0.1 in f.pat

pub end_of-requires : goal.end_of-requires
end_of-requires c = let a = c.args in let b = a.b.now in let s = c.requires in let f = fold-places b _ s.1 _ _ _ _ c.end_of-x.ensures c.end_of-q.ensures c.end_of-i.ensures refl s.0.0 s.0.1 in f.fits

pub members-a-requires : goal.members-a-requires
members-a-requires c = let a = c.args in let b = a.b.now in let s = c.requires in let f = fold-places b _ s.1 _ _ _ _ c.end_of-x.ensures c.end_of-q.ensures c.end_of-i.ensures c.end_of.ensures s.0.0 s.0.1 in (f.fits, f.args)

pub fold_kind-kind-requires : goal.fold_kind-kind-requires
fold_kind-kind-requires c = let a = c.args in let b = a.b.now in let s = c.requires in let f = fold-places b _ s.1 _ _ _ _ c.end_of-x.ensures c.end_of-q.ensures c.end_of-i.ensures c.end_of.ensures s.0.0 s.0.1 in f.name

pub end_of-requires-else-a-lt2 : goal.end_of-requires-else-a-lt2
end_of-requires-else-a-lt2 c = let a = c.args in let b = a.b.now in let s = c.requires in let f = fold-places b _ s.1 _ _ _ _ c.end_of-x.ensures c.end_of-q.ensures c.end_of-i.ensures c.end_of.ensures s.0.0 s.0.1 in let r = f.args in omega (arith, f.fits, row_next b r.0 _ _ r.1 (omega (arith, (c.members-a.ensures r.0 r.1).1, c.if-a-lt2.false)))

pub fold_width-requires : goal.fold_width-requires
fold_width-requires c = let a = c.args in let b = a.b.now in let s = c.requires in let f = fold-places b _ s.1 _ _ _ _ c.end_of-x.ensures c.end_of-q.ensures c.end_of-i.ensures c.end_of.ensures s.0.0 s.0.1 in (f.pattern, omega (arith, f.low))

pub returns : goal.returns
returns c =
    let s = c.requires in
    let i = fold-is c.args.b.now _ s.1 _ _ _ _ c.end_of-x.ensures c.end_of-q.ensures c.end_of-i.ensures c.end_of.ensures _ c.members-a.ensures _ c.if-a-lt2.result _ c.fold_kind-kind.ensures in
    elim c.if-a-lt2.branch [
      | then-a-lt2 w ↦ i (λ m. absurd (omega (arith, m, w.if-a-lt2.true))) (λ m. w.result-is) c.fold_width.ensures.0 c.fold_width.ensures.1 (inl w.if-a-lt2.true) s.0.0 s.0.1
      | else-a-lt2 w ↦ i (λ m. w.result-is ∙ w.end_of-else-a-lt2.ensures) (λ m. absurd (omega (arith, m, w.if-a-lt2.false))) c.fold_width.ensures.0 c.fold_width.ensures.1 (inr w.if-a-lt2.false) s.0.0 s.0.1
    ]
