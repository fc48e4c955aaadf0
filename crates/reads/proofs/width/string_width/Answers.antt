-- `string_width` meets its contract. Assumes nothing.
use Rattle.reads.proofs.Partings.{utf8-length, str-fits, text-width, char-len, char-width, term-width}
use native.Mathlib.Omega.{arith}
use mathlib.Core.Path.{ap, ◌∙◌}
use Prim.Native.Nat.{ℕ, ◌+◌}
use lib.ListN.{length}
use Rattle.text.specs.Utf8.{utf8}
use Rattle.reads.proofs.width.string_width.Goals as goal

pub bounds-b-q : goal.bounds-b-q
bounds-b-q c = let a = c.args in let b = a.b.now in let s = c.requires in omega (arith, str-fits b s.0 _ s.1)

pub len_of-requires : goal.len_of-requires
len_of-requires c = let a = c.args in let b = a.b.now in let s = c.requires in str-fits b s.0 _ s.1

pub overflow_add-result : goal.overflow_add-result
overflow_add-result c = let a = c.args in let b = a.b.now in let s = c.requires in omega (arith, c.len_of.ensures, str-fits b s.0 _ s.1)

pub char_at-requires : goal.char_at-requires
char_at-requires c = let a = c.args in let b = a.b.now in let s = c.requires in omega (arith, str-fits b s.0 _ s.1, char-len b _ c.in-188.is s.0 s.1)

pub overflow_add-result-in-188 : goal.overflow_add-result-in-188
overflow_add-result-in-188 c = let a = c.args in let b = a.b.now in let s = c.requires in omega (arith, c.utf8_len.ensures, utf8-length c.char_at.result)

pub returns-in-187 : goal.returns-in-187
returns-in-187 c = let a = c.args in let b = a.b.now in let s = c.requires in (λ x h. ap (λ (n : ℕ). 3 + n) c.len_of.ensures ∙ text-width b _ c.in-187.is x h, omega (arith, c.len_of.ensures))

pub returns-in-188 : goal.returns-in-188
returns-in-188 c = let a = c.args in let b = a.b.now in let s = c.requires in (char-width b _ _ c.in-188.is (c.utf8_len.ensures ∙ ap (λ (n : ℕ). length (utf8 n)) c.char_at.ensures), omega (arith, c.utf8_len.ensures, utf8-length c.char_at.result, char-len b _ c.in-188.is s.0 s.1))

pub returns-in_default : goal.returns-in_default
returns-in_default c = let a = c.args in let b = a.b.now in let s = c.requires in (term-width b _ (λ e. omega arith) (λ e. omega arith), omega arith)
