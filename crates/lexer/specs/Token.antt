-- What lexing finds, as data: tokens, and errors. Tags are those of document 01, section Fields.
use Rattle.std.specs.Prelude.{ℕ}

-- "Word 01, Var 02, Fmt 03, Num 04, Sym 05, string 06, block 07, text part 08, each with start and length; 0A a character":
-- a leaf has tag, start and length; a group has these and its members, "an interpolation is a block"
mutual
  pub data Token : Type 0 where
    leaf : ℕ → ℕ → ℕ → Token
    char : ℕ → Token
    group : ℕ → ℕ → ℕ → Tokens → Token

  pub data Tokens : Type 0 where
    none : Tokens
    more : Token → Tokens → Tokens

abbrev pub one : Token → Tokens
one t = more t none

unfoldable pub join : Tokens → Tokens → Tokens
join none us = us
join (more t ts) us = more t (join ts us)

-- "Digit 20, Ident 21, Delim 22, Escape 23, Unicode 24, Token 25, with place, Delim also its opener byte"
pub data Expect : Type 0 where
  digit ident escape unicode any : Expect
  closer : ℕ → Expect

-- what was expected, and the place where it was not
pub record Error : Type 0 where
  pub expect : Expect
  pub place : ℕ

abbrev pub missing : Expect → ℕ → Error
missing x at = record { expect = x; place = at }
