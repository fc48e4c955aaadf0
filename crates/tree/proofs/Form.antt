-- The place of a term or pattern is its field's. Assumes nothing.
use Rattle.std.specs.Prelude.{◌≡◌, refl}
use Rattle.tree.specs.Rose.{place_of}
use Rattle.tree.specs.Tree.{Term, Pattern, term_place, pattern_place}
use Rattle.tree.specs.Tree.{t_id, t_recurse, t_arr, t_neg, t_label, t_break, t_if_then_else, t_var, t_call, t_def, t_num, t_try_catch, t_fold, t_pipe, t_bin_op, t_path, t_str, t_obj}
use Rattle.tree.specs.Tree.{p_var, p_arr, p_obj}
use Rattle.tree.specs.Form.{f_term, f_pattern}

-- ---- the place of a term or pattern is its field's

pub term-place : (t : Term) → place_of (f_term t) ≡ term_place t
unfolding f_term
term-place (t_id p) = refl
term-place (t_recurse p) = refl
term-place (t_arr p o) = refl
term-place (t_neg p t) = refl
term-place (t_label p x t) = refl
term-place (t_break p x) = refl
term-place (t_if_then_else p q c t bs) = refl
term-place (t_var p x) = refl
term-place (t_call p f ts) = refl
term-place (t_def p ds t) = refl
term-place (t_num p x) = refl
term-place (t_try_catch p t o) = refl
term-place (t_fold p f t x ts) = refl
term-place (t_pipe p t q x u) = refl
term-place (t_bin_op p t q x u) = refl
term-place (t_path p t ps) = refl
term-place (t_str p f ps) = refl
term-place (t_obj p es) = refl

pub pattern-place : (x : Pattern) → place_of (f_pattern x) ≡ pattern_place x
unfolding f_term
pattern-place (p_var p x) = refl
pattern-place (p_arr p xs) = refl
pattern-place (p_obj p es) = refl
