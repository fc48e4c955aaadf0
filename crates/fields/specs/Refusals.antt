-- What a call gives, in Rust's words: the listing that it wrote, or why it lists nothing. Document 01: "Each call gives a number, a length written and
-- a place." Assumes nothing.
use Rattle.std.specs.Prelude.{◌≡◌, refl, ℕ, Result, Ok, Err, eqb}
use Rattle.std.proofs.Common.{sym, ap, ◌∙◌}
use Rattle.fields.specs.declared.Answer.{Answer}
use Rattle.fields.specs.Outcome.{pick}
use Rattle.fields.specs.declared.Listing.{Listing}
use Rattle.fields.specs.declared.Listing.TheVariants.{Due, Errors}
use Rattle.fields.specs.declared.Refusal.{Refusal}
use Rattle.fields.specs.declared.Refusal.TheVariants.{TooLong, NotWellFormed, TooDeep, DefinitionsTooDeep, TooManyTerms, NoRoom, TooManyOperators}

-- "2: input over 32,768 bytes; 3: source not UTF-8; tree or operator row not well formed; 4: nesting over 128 in source, over 512 in a tree;
-- 5: definitions nested over 64, compiled or not; 6: over 4,096 terms inserted, error paths counted; 7: listing longer than the room lent;
-- 8: over 1,024 operators"
abbrev pub number_of : Refusal → ℕ
number_of TooLong = 2
number_of (NotWellFormed at) = 3
number_of (TooDeep at) = 4
number_of DefinitionsTooDeep = 5
number_of TooManyTerms = 6
number_of NoRoom = 7
number_of TooManyOperators = 8

-- "3: source: length of longest valid prefix; else 0; 4: source: first opener that makes 129 open; tree: 0"; of the others: "0"
abbrev pub place_of : Refusal → ℕ
place_of TooLong = 0
place_of (NotWellFormed at) = at
place_of (TooDeep at) = at
place_of DefinitionsTooDeep = 0
place_of TooManyTerms = 0
place_of NoRoom = 0
place_of TooManyOperators = 0

-- "0: listing of tokens, operators or terms; 1: listing of errors, nothing else; for 2 to 8 the length is 0"; a listing has no place: "0"
abbrev pub answer_of : Result Listing Refusal → Answer
answer_of (Ok (Due length)) = record { number = 0; length = length; place = 0 }
answer_of (Ok (Errors length)) = record { number = 1; length = length; place = 0 }
answer_of (Err e) = record { number = number_of e; length = 0; place = place_of e }

-- the result that an answer stands for
abbrev pub result_of : Answer → Result Listing Refusal
result_of a =
    pick (eqb a.number 0) (Ok (Due a.length))
    (pick (eqb a.number 1) (Ok (Errors a.length))
    (pick (eqb a.number 2) (Err TooLong)
    (pick (eqb a.number 3) (Err (NotWellFormed a.place))
    (pick (eqb a.number 4) (Err (TooDeep a.place))
    (pick (eqb a.number 5) (Err DefinitionsTooDeep) (pick (eqb a.number 6) (Err TooManyTerms) (pick (eqb a.number 7) (Err NoRoom) (Err TooManyOperators))))))))

pub result-back : (r : Result Listing Refusal) → result_of (answer_of r) ≡ r
result-back (Ok (Due length)) = refl
result-back (Ok (Errors length)) = refl
result-back (Err TooLong) = refl
result-back (Err (NotWellFormed at)) = refl
result-back (Err (TooDeep at)) = refl
result-back (Err DefinitionsTooDeep) = refl
result-back (Err TooManyTerms) = refl
result-back (Err NoRoom) = refl
result-back (Err TooManyOperators) = refl

-- an answer is that of one result
pub answer_of-one : (r₁ r₂ : Result Listing Refusal) → answer_of r₁ ≡ answer_of r₂ → r₁ ≡ r₂
answer_of-one r₁ r₂ e = sym (result-back r₁) ∙ ap result_of e ∙ result-back r₂
