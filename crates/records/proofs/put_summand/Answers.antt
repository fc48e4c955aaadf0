-- `records::put_summand` meets its contract: by the kind of the note an entry or a part of a string. Assumes nothing.
use mathlib.Core.Path.{sym, ap, ◌∙◌}
use Rattle.cells.specs.Kinds.{kind_number, kept-only}
use Rattle.records.proofs.Strings.{entry-put, piece-at, piece-put}
use Rattle.records.proofs.put_summand.Goals as goal

pub returns-in-Kept : goal.returns-in-Kept
returns-in-Kept c = entry-put c.args.tree.now c.args.rows.now _ c.args.j _ _ _ _ _ (sym c.kind.ensures ∙ ap kind_number c.in-Kept.is) c.number-a.ensures c.last-b.ensures c.put_two.ensures

pub put_string-requires : goal.put_string-requires
put_string-requires c = let p = piece-at c.args.tree.now c.args.rows.now _ c.args.j _ c.requires.1.0 c.requires.1.1 (λ e. c.in_default.not-Kept (kept-only _ (c.kind.ensures ∙ e))) c.requires.1.2 in rw (c.last-b.ensures, c.number-a.ensures) (p.part, p.at, p.room)

pub returns : goal.returns
returns c = piece-put c.args.tree.now c.args.rows.now _ c.args.j _ _ _ _ (λ e. c.in_default.not-Kept (kept-only _ (c.kind.ensures ∙ e))) (rw (c.last-b.ensures, c.number-a.ensures) at c.put_string.ensures)
