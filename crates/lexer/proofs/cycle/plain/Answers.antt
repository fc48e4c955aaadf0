-- `cycle::plain` meets its contract: a Word, a Num, a Sym, and Var or Fmt. Assumes nothing.
use mathlib.Core.Path.{ap}
use Rattle.lexer.specs.Meets.{tag_of}
use Rattle.lexer.specs.declared.token.Tag.TheVariants.{Word, Num, Sym}
use Rattle.lexer.proofs.Tags.{same-tag}
use Rattle.lexer.proofs.Pieces.{plain_word, plain-num, plain-sym, plain-ident}
use Rattle.lexer.proofs.cycle.plain.Goals as goal

pub returns-in-Word : goal.returns-in-Word
returns-in-Word c = plain_word _ _ _ _ _ _ (ap tag_of c.in-Word.is) c.mod_then_ident.ensures

pub returns-in-Num : goal.returns-in-Num
returns-in-Num c = plain-num _ _ _ _ _ _ (ap tag_of c.in-Num.is) c.num.ensures

pub returns-in-Sym : goal.returns-in-Sym
returns-in-Sym c = plain-sym _ _ _ _ _ c.args.err.now (ap tag_of c.in-Sym.is) c.sym.ensures

pub returns-in_default : goal.returns-in_default
returns-in_default c =
    let d = c.in_default in
    plain-ident _ _ _ _ _ _ (λ e. d.not-Word (same-tag _ Word e)) (λ e. d.not-Num (same-tag _ Num e)) (λ e. d.not-Sym (same-tag _ Sym e)) c.ident1.ensures
