-- `finds::call_mod` meets its contract: the module part, then the rest, among that module's definitions. Assumes nothing.
use Rattle.finds.proofs.Meanings.{rest-fits, mod-returns, mod-returns-none, mod-returns-some, import-low, import-is}
use lib.ListN.{take}
use mathlib.Core.Path.{refl, subst}
use Rattle.rules.specs.Names.{Text}
use Rattle.finds.specs.Asks.{Defined}
use Rattle.finds.specs.Gives.{gives-some, gives-none}
use native.Mathlib.Omega.{arith}
use borrow.Author.Rules.{rules}
use Rattle.finds.proofs.call_mod.Goals as goal

pub returns-in_default : goal.returns-in_default
returns-in_default c = let a = c.args in mod-returns a.tree.now a.rows.now a.x.now a.c a.at a.a c.requires.2 c.requires.3 0 (gives-none _ _ c.import.ensures c.in_default.is) refl _ refl

pub slice_bounds-y-count : goal.slice_bounds-y-count
slice_bounds-y-count c = let a = c.args in rest-fits a.tree.now a.rows.now a.x.now a.c a.at a.a c.requires.2 c.requires.3

pub slice_bounds-y-start : goal.slice_bounds-y-start
slice_bounds-y-start c = let a = c.args in let w = rest-fits a.tree.now a.rows.now a.x.now a.c a.at a.a c.requires.2 c.requires.3 in search rules

pub overflow_add-p : goal.overflow_add-p
overflow_add-p c =
    let a = c.args in
    let g = gives-some _ _ _ c.import.ensures c.in-Some.is in
    omega (arith, import-low a.tree.now a.rows.now (take a.c a.x.now) _ g.0 g.1 c.requires.0)

pub number_at-requires : goal.number_at-requires
number_at-requires c =
    let a = c.args in
    let g = gives-some _ _ _ c.import.ensures c.in-Some.is in
    omega (arith, import-low a.tree.now a.rows.now (take a.c a.x.now) _ g.0 g.1 c.requires.0)

pub defined-requires : goal.defined-requires
defined-requires c =
    let a = c.args in
    let g = gives-some _ _ _ c.import.ensures c.in-Some.is in
    import-is a.tree.now a.rows.now (take a.c a.x.now) _ g.0 g.1 c.requires.0 _ c.number_at.ensures.0

pub returns-in-Some-defined : goal.returns-in-Some-defined
returns-in-Some-defined c =
    let a = c.args in
    let g = gives-some _ _ _ c.import.ensures c.in-Some.is in
    let x = c.new-sought.result in
    let e = c.new-sought.ensures in
    let d = gives-some _ _ _ c.defined.ensures c.in-Some-defined.is in
    mod-returns-some a.tree.now a.rows.now a.x.now a.c a.at a.a c.requires.2 c.requires.3 _ c.number_at.result x.key _ g.0 g.1 c.number_at.ensures.0 e.1
    (subst (λ (y : Text). Defined a.tree.now a.rows.now c.number_at.result y x.key c.in-Some-defined.j) e.0 d.0) d.1 _ refl

pub returns-in-None : goal.returns-in-None
returns-in-None c =
    let a = c.args in
    let g = gives-some _ _ _ c.import.ensures c.in-Some.is in
    let x = c.new-sought.result in
    let e = c.new-sought.ensures in
    let d = gives-none _ _ c.defined.ensures c.in-None.is in
    mod-returns-none a.tree.now a.rows.now a.x.now a.c a.at a.a c.requires.2 c.requires.3 _ c.number_at.result x.key 0 g.0 g.1 c.number_at.ensures.0 e.1
    (subst (λ (y : Text). Defined a.tree.now a.rows.now c.number_at.result y x.key 0) e.0 d) refl _ refl
