-- Worked examples, by computing: a tree and its bytes. Its natives are none, its globals are absent. Assumes nothing.
use Rattle.std.specs.Prelude.{◌≡◌, refl, true, false, [], ◌∷◌}
use Rattle.fields.specs.Number.{number, value}
use Rattle.fields.specs.Field.{field}
use Rattle.tree.specs.Tree.{Uses, Tree, Term, no_globals, t_id, t_var, t_pipe, a_pattern, p_var, operator, operator_of, o_math, o_update_alt, o_none}
use Rattle.tree.specs.Form.{f_tree, f_natives, f_globals, f_modules, f_main, f_uses, f_imports, f_numbers, f_names, f_term}
use Rattle.tree.specs.Encoded.{encode, bytes_of}
use Rattle.tree.specs.Numbers.{uses_below, imported, included, below}
use Rattle.tree.specs.Nest.{nest, counts}
use Rattle.tree.specs.Verdict.{nesting, defining}

-- of main alone, whose three fields before the term are at 9, 12 and 15
abbrev pub main_uses : Uses
main_uses = record { imports_at = 9; imports = []; includes_at = 12; includes = []; vars_at = 15; vars = [] }

abbrev pub of : Term → Tree
of t = record { place = 0; natives_at = 3; natives = []; globals = no_globals; modules = []; main = record { place = 6; uses = main_uses; body = t } }

-- `.`
pub identity : encode (of (t_id 18)) ≡ 0x80 ∷ 18 ∷ 0 ∷ 0x81 ∷ 0 ∷ 0 ∷ 0x84 ∷ 12 ∷ 0 ∷ 0x86 ∷ 0 ∷ 0 ∷ 0x87 ∷ 0 ∷ 0 ∷ 0x88 ∷ 0 ∷ 0 ∷ 0xA0 ∷ 0 ∷ 0 ∷ []
unfolding encode bytes_of field number f_tree f_natives f_globals f_modules f_main f_uses f_imports f_numbers f_names f_term
identity = refl

-- `. as $x | $x`: a BinOp at 18 with Id at 21, Pipe at 24, its pattern at 27, Var at 32
pub bind : encode (of (t_pipe 18 (t_id 21) 24 (a_pattern (p_var 27 (36 ∷ 120 ∷ []))) (t_var 32 (36 ∷ 120 ∷ []))))
    ≡ 0x80 ∷ 34 ∷ 0 ∷ 0x81 ∷ 0 ∷ 0 ∷ 0x84 ∷ 28 ∷ 0 ∷ 0x86 ∷ 0 ∷ 0 ∷ 0x87 ∷ 0 ∷ 0 ∷ 0x88 ∷ 0 ∷ 0
    ∷ 0xAD ∷ 16 ∷ 0 ∷ 0xA0 ∷ 0 ∷ 0 ∷ 0xB7 ∷ 5 ∷ 0 ∷ 0x98 ∷ 2 ∷ 0 ∷ 36 ∷ 120 ∷ 0xA7 ∷ 2 ∷ 0 ∷ 36 ∷ 120 ∷ []
unfolding encode bytes_of field number f_tree f_natives f_globals f_modules f_main f_uses f_imports f_numbers f_names f_term
bind = refl

-- its nesting: tree, main, BinOp, Pipe, pattern; no definition
pub depths : (nesting (of (t_pipe 18 (t_id 21) 24 (a_pattern (p_var 27 (36 ∷ 120 ∷ []))) (t_var 32 (36 ∷ 120 ∷ [])))) ≡ 5)
    × (defining (of (t_pipe 18 (t_id 21) 24 (a_pattern (p_var 27 (36 ∷ 120 ∷ []))) (t_var 32 (36 ∷ 120 ∷ [])))) ≡ 0)
unfolding nest counts f_tree f_natives f_globals f_modules f_main f_uses f_imports f_numbers f_names f_term
depths = (refl, refl)

-- a module that includes number 0 is right as module 1, and not as module 0
abbrev pub including : Uses
including = record { imports_at = 0; imports = []; includes_at = 0; includes = record { place = 0; bytes = 0 ∷ 0 ∷ [] } ∷ []; vars_at = 0; vars = [] }

pub earlier : (uses_below 1 including ≡ true) × (uses_below 0 including ≡ false)
unfolding uses_below imported included below value
earlier = (refl, refl)

-- `-` is 11, `//=` 07; 08 is none
pub bytes : (operator (0x11 ∷ []) ≡ o_math 1) × (operator (0x07 ∷ []) ≡ o_update_alt) × (operator (0x08 ∷ []) ≡ o_none)
unfolding operator_of
bytes = (refl, refl, refl)
