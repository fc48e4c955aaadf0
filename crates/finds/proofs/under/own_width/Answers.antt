-- `finds::under::own_width` meets its contract: by the tag of the term. Assumes nothing.
use lib.ListN.{get_or}
use mathlib.Core.Path.{◌≡◌}
use Rattle.finds.proofs.Widths.{under-own, under-break, under-var, ite-wide, num-wide, try-wide, fold-wide, two-wide, three-wide, obj-wide, obj-entries, last-tag}
use Rattle.reads.specs.Shapes.{term_fits, term-tag}
use native.Mathlib.Omega.{arith}
use Rattle.finds.proofs.under.own_width.Goals as goal
use Rattle.finds.proofs.under.own_width.Goals.{in_default-via-then-tag-lt160, in_default-via-else-tag-lt160+else-tag-lt162+else-tag-lt165}

pub bounds-b-q : goal.bounds-b-q
bounds-b-q c = let a = c.args in omega (arith, term_fits a.b.now _ a.q c.requires.2.2)

pub named_width-requires : goal.named_width-requires
named_width-requires c = let a = c.args in (c.requires.0, c.requires.1, term_fits a.b.now _ a.q c.requires.2.2, omega arith)

pub named_width-requires-in-167 : goal.named_width-requires-in-167
named_width-requires-in-167 c = let a = c.args in (c.requires.0, c.requires.1, term_fits a.b.now _ a.q c.requires.2.2, omega arith)

pub num_width-requires : goal.num_width-requires
num_width-requires c = let a = c.args in term_fits a.b.now _ a.q c.requires.2.2

pub overflow_add-q : goal.overflow_add-q
overflow_add-q c = let a = c.args in omega (arith, term_fits a.b.now _ a.q c.requires.2.2)

pub end_of-requires : goal.end_of-requires
end_of-requires c = let a = c.args in term_fits a.b.now _ a.q c.requires.2.2

pub entries_width-requires : goal.entries_width-requires
entries_width-requires c = let a = c.args in let t = term-tag a.b.now _ a.q c.requires.2.2 in let e : get_or a.b.now a.q 0 ≡ 0xB0 = elim c.in_default.branch [ in_default-via-then-tag-lt160 w ↦ absurd (omega (arith, t.0)) | in_default-via-else-tag-lt160+else-tag-lt162+else-tag-lt165 w ↦ last-tag (get_or a.b.now a.q 0) t.1 (omega arith) (λ e. omega arith) (λ e. omega arith) (λ e. omega arith) (λ e. omega arith) c.requires.3 (λ e. omega arith) (λ e. omega arith) (λ e. omega arith) (λ e. omega arith) (λ e. omega arith) (λ e. omega arith) ] in (omega (arith, c.end_of.ensures, term_fits a.b.now _ a.q c.requires.2.2), obj-entries a.b.now a.q e _ c.requires.2.2 c.end_of.result c.end_of.ensures)

pub returns-in-165 : goal.returns-in-165
returns-in-165 c = let a = c.args in (under-break a.b.now a.rows.now a.p a.q c.named_width.result c.in-165.is c.named_width.ensures.0, omega (arith, c.named_width.ensures.1))

pub returns-in-166 : goal.returns-in-166
returns-in-166 c = let a = c.args in (under-own a.b.now a.rows.now a.p a.q _ (ite-wide a.b.now a.q c.in-166.is), omega arith)

pub returns-in-167 : goal.returns-in-167
returns-in-167 c = let a = c.args in (under-var a.b.now a.rows.now a.p a.q c.named_width-in-167.result c.in-167.is c.named_width-in-167.ensures.0, omega (arith, c.named_width-in-167.ensures.1))

pub returns-in-168 : goal.returns-in-168
returns-in-168 c = let a = c.args in (c.called_width.ensures.0, omega (arith, c.called_width.ensures.1))

pub returns-in-170 : goal.returns-in-170
returns-in-170 c = let a = c.args in (under-own a.b.now a.rows.now a.p a.q _ (num-wide a.b.now a.q c.num_width.result c.num_width.ensures.0 c.in-170.is), omega (arith, c.num_width.ensures.1))

pub returns-in-171 : goal.returns-in-171
returns-in-171 c = let a = c.args in (under-own a.b.now a.rows.now a.p a.q _ (try-wide a.b.now a.q c.in-171.is), omega arith)

pub returns-in-172 : goal.returns-in-172
returns-in-172 c = let a = c.args in (under-own a.b.now a.rows.now a.p a.q _ (fold-wide a.b.now a.q c.fold_of.result c.fold_of.ensures c.in-172.is), omega (arith, c.fold_of.ensures.room))

pub returns-in-173 : goal.returns-in-173
returns-in-173 c = let a = c.args in (under-own a.b.now a.rows.now a.p a.q _ c.binary_width.ensures.0, omega (arith, c.binary_width.ensures.1))

pub returns-in-174 : goal.returns-in-174
returns-in-174 c = let a = c.args in (under-own a.b.now a.rows.now a.p a.q _ c.path_width.ensures.0, omega (arith, c.path_width.ensures.1))

pub returns-in-175 : goal.returns-in-175
returns-in-175 c = let a = c.args in (under-own a.b.now a.rows.now a.p a.q _ c.quoted_width.ensures.0, omega (arith, c.quoted_width.ensures.1))

pub returns-in-160 : goal.returns-in-160
returns-in-160 c = let a = c.args in (under-own a.b.now a.rows.now a.p a.q _ (two-wide a.b.now a.q (omega arith) (omega arith)), omega arith)

pub returns-in-162 : goal.returns-in-162
returns-in-162 c = let a = c.args in (under-own a.b.now a.rows.now a.p a.q _ (three-wide a.b.now a.q (omega arith) (omega arith)), omega arith)

pub returns-in_default : goal.returns-in_default
returns-in_default c = let a = c.args in let t = term-tag a.b.now _ a.q c.requires.2.2 in let e : get_or a.b.now a.q 0 ≡ 0xB0 = elim c.in_default.branch [ in_default-via-then-tag-lt160 w ↦ absurd (omega (arith, t.0)) | in_default-via-else-tag-lt160+else-tag-lt162+else-tag-lt165 w ↦ last-tag (get_or a.b.now a.q 0) t.1 (omega arith) (λ e. omega arith) (λ e. omega arith) (λ e. omega arith) (λ e. omega arith) c.requires.3 (λ e. omega arith) (λ e. omega arith) (λ e. omega arith) (λ e. omega arith) (λ e. omega arith) (λ e. omega arith) ] in (under-own a.b.now a.rows.now a.p a.q _ (obj-wide a.b.now a.q c.entries_width.result c.end_of.result c.end_of.ensures c.entries_width.ensures.0 e), omega (arith, c.entries_width.ensures.1))
