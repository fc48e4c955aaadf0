-- `class::digit` meets its contract: at each byte the test is computed. Assumes nothing.
use mathlib.Core.Path.{refl, ◌∙◌}
use Rattle.std.specs.Char.{is_ascii_digit}
use Rattle.lexer.specs.Word.{digit}
use Rattle.lexer.proofs.Every.{every, agree}
use borrow.Author.Rules.{rules}
use Rattle.lexer.proofs.class.digit.Goals as goal

pub returns : goal.returns
unfolding digit every
returns c = c.is_ascii_digit.ensures.value ∙ agree is_ascii_digit digit 0 256 refl c.args.b (search rules) (search rules)
