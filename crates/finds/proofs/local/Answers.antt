-- `finds::local` meets its contract: a local, then an included module, then a native. Assumes nothing.
use lib.ListN.{get_or}
use mathlib.Core.Path.{◌≡◌, refl, ap, subst, ◌∙◌}
use native.Mathlib.Omega.{arith}
use Rattle.rules.specs.Names.{Text}
use Rattle.reads.specs.Bytes.{word_of}
use Rattle.finds.specs.Asks.{Seeks, Includes}
use Rattle.finds.specs.Gives.{or_zero, gives-some, gives-none}
use Rattle.finds.specs.Numbers.{numbers}
use Rattle.finds.proofs.Meanings.{local-lost, local-within, local-argument, local-parent, local-sibling, local-native}
use Rattle.finds.proofs.Seeks.{viewed-along}
use Rattle.cells.specs.Kinds.{kind_number}
use Rattle.cells.specs.declared.RowKind.{RowKind}
use Rattle.cells.specs.declared.RowKind.TheVariants.{Var, Label, Arg, Parent, Sibling, Native, Kept, Piece}
use Rattle.finds.proofs.local.Goals as goal

-- the other kinds have other numbers
unlike : (k : RowKind) → (k ≡ Arg → ⊥) → (k ≡ Parent → ⊥) → (k ≡ Sibling → ⊥) → (kind_number k ≡ 2 → ⊥) × (kind_number k ≡ 3 → ⊥) × (kind_number k ≡ 4 → ⊥)
unlike Arg a p s = absurd (a refl)
unlike Parent a p s = absurd (p refl)
unlike Sibling a p s = absurd (s refl)
unlike Var a p s = (λ e. omega arith, λ e. omega arith, λ e. omega arith)
unlike Label a p s = (λ e. omega arith, λ e. omega arith, λ e. omega arith)
unlike Native a p s = (λ e. omega arith, λ e. omega arith, λ e. omega arith)
unlike Kept a p s = (λ e. omega arith, λ e. omega arith, λ e. omega arith)
unlike Piece a p s = (λ e. omega arith, λ e. omega arith, λ e. omega arith)

pub seek-requires : goal.seek-requires
seek-requires c = let a = c.args in viewed-along a.tree.now a.rows.now c.requires.0 c.head_of-h.result c.head_of-h.ensures.1 c.head_of-h.ensures.2

pub returns-in_default : goal.returns-in_default
returns-in_default c =
    let a = c.args in
    let x = c.new-sought.result in
    let e = c.new-sought.ensures in
    let h = c.head_of-h.ensures in
    let g = gives-none _ _ c.seek.ensures c.in_default.is in
    let f = subst (λ (y : Text). Seeks a.tree.now a.rows.now (get_or a.rows.now c.head_of-h.result 0) y x.word x.key 0) e.0 g in
    let i = subst (λ (y : Text). Includes a.tree.now a.rows.now y x.key (or_zero c.included.result)) e.0 c.included.ensures.is in
    local-lost a.tree.now a.rows.now a.x.now a.at a.a c.requires.1 x.word x.key c.head_of-h.result 0 (x.by_word ∙ ap word_of e.0) e.1 h.0 h.1 h.2 f refl (or_zero c.included.result) _ refl i (numbers c.outside.result) c.outside.ensures

pub kind-requires : goal.kind-requires
kind-requires c =
    let a = c.args in
    let x = c.new-sought.result in
    let e = c.new-sought.ensures in
    let h = c.head_of-h.ensures in
    let g = gives-some _ _ _ c.seek.ensures c.in-Some.is in
    let f = subst (λ (y : Text). Seeks a.tree.now a.rows.now (get_or a.rows.now c.head_of-h.result 0) y x.word x.key c.in-Some.j) e.0 g.0 in
    local-within a.tree.now a.rows.now a.x.now a.at a.a c.requires.1 x.word x.key c.head_of-h.result c.in-Some.j (x.by_word ∙ ap word_of e.0) e.1 h.0 h.1 h.2 f c.requires.0 g.1

pub returns-in-Arg : goal.returns-in-Arg
returns-in-Arg c =
    let a = c.args in
    let x = c.new-sought.result in
    let e = c.new-sought.ensures in
    let h = c.head_of-h.ensures in
    let g = gives-some _ _ _ c.seek.ensures c.in-Some.is in
    let f = subst (λ (y : Text). Seeks a.tree.now a.rows.now (get_or a.rows.now c.head_of-h.result 0) y x.word x.key c.in-Some.j) e.0 g.0 in
    local-argument a.tree.now a.rows.now a.x.now a.at a.a c.requires.1 x.word x.key c.head_of-h.result c.in-Some.j (x.by_word ∙ ap word_of e.0) e.1 h.0 h.1 h.2 f g.1 _ c.kind.ensures (rw c.in-Arg.is) _ refl

pub returns-in-Parent : goal.returns-in-Parent
returns-in-Parent c =
    let a = c.args in
    let x = c.new-sought.result in
    let e = c.new-sought.ensures in
    let h = c.head_of-h.ensures in
    let g = gives-some _ _ _ c.seek.ensures c.in-Some.is in
    let f = subst (λ (y : Text). Seeks a.tree.now a.rows.now (get_or a.rows.now c.head_of-h.result 0) y x.word x.key c.in-Some.j) e.0 g.0 in
    local-parent a.tree.now a.rows.now a.x.now a.at a.a c.requires.1 x.word x.key c.head_of-h.result c.in-Some.j (x.by_word ∙ ap word_of e.0) e.1 h.0 h.1 h.2 f g.1 _ c.kind.ensures (rw c.in-Parent.is) _ refl

pub returns-in-Sibling : goal.returns-in-Sibling
returns-in-Sibling c =
    let a = c.args in
    let x = c.new-sought.result in
    let e = c.new-sought.ensures in
    let h = c.head_of-h.ensures in
    let g = gives-some _ _ _ c.seek.ensures c.in-Some.is in
    let f = subst (λ (y : Text). Seeks a.tree.now a.rows.now (get_or a.rows.now c.head_of-h.result 0) y x.word x.key c.in-Some.j) e.0 g.0 in
    local-sibling a.tree.now a.rows.now a.x.now a.at a.a c.requires.1 x.word x.key c.head_of-h.result c.in-Some.j (x.by_word ∙ ap word_of e.0) e.1 h.0 h.1 h.2 f g.1 _ c.kind.ensures (rw c.in-Sibling.is) _ refl

pub returns-in_default-kind : goal.returns-in_default-kind
returns-in_default-kind c =
    let a = c.args in
    let x = c.new-sought.result in
    let e = c.new-sought.ensures in
    let h = c.head_of-h.ensures in
    let g = gives-some _ _ _ c.seek.ensures c.in-Some.is in
    let f = subst (λ (y : Text). Seeks a.tree.now a.rows.now (get_or a.rows.now c.head_of-h.result 0) y x.word x.key c.in-Some.j) e.0 g.0 in
    let i = subst (λ (y : Text). Includes a.tree.now a.rows.now y x.key (or_zero c.included-in_default-kind.result)) e.0 c.included-in_default-kind.ensures.is in
    let k = c.in_default-kind in
    let u = unlike c.kind.result k.not-Arg k.not-Parent k.not-Sibling in
    local-native a.tree.now a.rows.now a.x.now a.at a.a c.requires.1 x.word x.key c.head_of-h.result c.in-Some.j (x.by_word ∙ ap word_of e.0) e.1 h.0 h.1 h.2 f g.1 _ c.kind.ensures u.0 u.1 u.2 (or_zero c.included-in_default-kind.result) i _ (numbers c.outside-in_default-kind.result) refl c.outside-in_default-kind.ensures
