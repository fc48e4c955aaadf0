-- What a source comes to. "2: input over 32,768 bytes; 3: source not UTF-8, place: length of longest valid prefix; 4: nesting over 128 in source, place:
-- first opener that makes 129 open .. The lowest applicable of 2 to 6 and 8 is given; then 7 ..; then 0 or 1."
use Rattle.std.specs.Prelude.{ℕ, cond, List, [], ◌∷◌, ◌++◌, length, ltb}
use Rattle.text.specs.Valid.{valid_prefix}
use Rattle.fields.specs.Outcome.{Outcome, listing, refusal}
use Rattle.lexer.specs.Read.{Read, read, deep}
use Rattle.lexer.specs.Lex.{whole}
use Rattle.lexer.specs.Listing.{edition, tokens_bytes, errors_bytes}

-- "0: listing of tokens ..; 1: listing of errors, nothing else"
unfoldable pub listed : ℕ → Read → Outcome
listed w (read at ts []) = listing 0 (edition ++ tokens_bytes w ts)
listed w (read at ts (e ∷ es)) = listing 1 (edition ++ errors_bytes w (e ∷ es))
listed w (deep p) = refusal 4 p

unfoldable pub lexing : List ℕ → Outcome
lexing s =
    let found = listed 2 (whole s) in
    cond (ltb 32768 (length s)) (refusal 2 0)
    (cond (ltb (valid_prefix s) (length s)) (refusal 3 (valid_prefix s)) found)
