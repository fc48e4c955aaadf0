-- Every record of a tree of at most 32,768 bytes that inserts at most 4,096 terms fits its field: each number its bytes, each content its length. Assumes nothing.
use Prim.Native.Nat.{ℕ, suc, ◌+◌, ◌*◌, ◌≤◌, ◌<◌}
use Rattle.std.proofs.Common.{arith, ap, length-append}
use Rattle.std.specs.Prelude.{◌≡◌, refl}
use Rattle.std.proofs.Math.Option.{Option, none, some}
use mathlib.Core.List.{List, [], ◌∷◌, ◌++◌}
use Rattle.std.proofs.Math.ListN.{length}
use Rattle.fields.specs.Number.{number, length-number}
use Rattle.fields.specs.Field.{field, length-field}
use Rattle.tree.specs.Tree.{Name, Native, Globals, no_globals, a_globals, Uses, Module, Main, Tree, Def}
use Rattle.tree.specs.Rose.{Roses, node, rnil, rcons}
use Rattle.tree.specs.Form.{f_term, f_defs, f_native, f_natives, f_globals, f_uses, f_module, f_modules, f_main, f_tree}
use Rattle.rules.specs.Table.{kind_number, Arg, Pat, pat_var, pat_idx, Pats, pats_nil, pats_cons, Folding, reduce, foreach, Step, index, range, Rec, Node, n_id, n_recurse, n_to_string, n_int, n_num, n_str, n_arr, n_obj_empty, n_obj_single, n_var, n_call_def, n_native, n_label, n_neg, n_pipe, n_comma, n_assign, n_update, n_update_math, n_update_alt, n_logic, n_math, n_cmp, n_alt, n_try_catch, n_ite, n_fold, n_path}
use Rattle.rules.specs.Tails.{empty}
use Rattle.rules.specs.Rows.{Filter, filters}
use Rattle.rules.specs.Filters.{Top}
use Rattle.rules.specs.Outs.{slot, Made}
use Rattle.rules.specs.Rules.{Scope, term, defs}
use Rattle.rules.specs.Modules.{globals_of, imported_by, imported_from, top_of, modules, compile}
use Rattle.rules.specs.Lists.{Every, every_map}
use Rattle.rules.specs.Slices.{Table}
use Rattle.rules.specs.Listing.{flag, arg_list, pat_count, pat_bytes, pats_bytes, opt_pat_bytes, fold_bytes, opt_number, step_bytes, steps_bytes}
use Rattle.rules.specs.Numbers.{In, InArgs, InPat, InPats, InOptPat, InOpt, InStep, InFold, Fine}
use Rattle.rules.specs.Fine.{Of}
use Rattle.rules.proofs.Fine.{table-fine}
use Rattle.rules.specs.Count.{inserted}
use Rattle.rules.proofs.Count.{table-count}
use Rattle.walks.specs.Weights.{weigh, weighs}
use Rattle.walks.proofs.Weights.{names-weigh}
use Rattle.walks.proofs.Lightness.{Light, AllLight, both, light, light-defs}
use Rattle.walks.proofs.ReadBack.{Small, SmallOpt, SmallArgs, SmallPat, SmallPats, SmallOptPat, SmallStep, SmallFolding, Fits}

-- ---- the fields of the whole tree

uses-weigh : (u : Uses) (rs : Roses) → 3 * length u.vars + weighs rs ≤ weighs (f_uses u rs)
unfolding f_uses
uses-weigh u rs = omega (arith, names-weigh 0x90 u.vars rnil)

globals-weigh : (g : Globals) (rs : Roses) → 3 * length (globals_of g) + weighs rs ≤ weighs (f_globals g rs)
unfolding f_globals
globals-weigh no_globals rs = omega arith
globals-weigh (a_globals p xs) rs = omega (arith, names-weigh 0x90 xs rnil)

natives-weigh : (ns : List Native) (rs : Roses) → 3 * length ns + weighs rs ≤ weighs (f_natives ns rs)
unfolding f_natives f_native
natives-weigh [] rs = omega arith
natives-weigh (n ∷ ns) rs = omega (arith, natives-weigh ns rs)

imported-length : (i : ℕ) (xs : List Name) → length (imported_by i xs) ≡ length xs
imported-length i [] = refl
imported-length i (x ∷ xs) = ap suc (imported-length i xs)

-- the definitions of modules
abbrev defs_weigh : List Module → ℕ
defs_weigh [] = 0
defs_weigh (m ∷ ms) = weighs (f_defs m.defs rnil) + defs_weigh ms

modules-weigh : (i : ℕ) (ms : List Module) (u : Main)
    → length (imported_from i ms u) + (defs_weigh ms + weigh (f_term u.body)) ≤ weighs (f_modules ms (rcons (f_main u) rnil))
unfolding f_modules f_module f_main
modules-weigh i [] u = omega (arith, imported-length i u.uses.vars, uses-weigh u.uses (rcons (f_term u.body) rnil))
modules-weigh i (m ∷ ms) u =
    omega (
      arith,
      imported-length i m.uses.vars,
      length-append (imported_by i m.uses.vars) (imported_from (suc i) ms u),
      uses-weigh m.uses (rcons (node 0x89 m.defs_at (f_defs m.defs rnil)) rnil),
      modules-weigh (suc i) ms u,
    )

-- imported variables and globals, the definitions of all modules, main
tree-weigh : (t : Tree) → (length (imported_from 0 t.modules t.main) + length (globals_of t.globals)) + (defs_weigh t.modules + weigh (f_term t.main.body)) ≤ weigh (f_tree t)
unfolding f_tree
tree-weigh t =
    omega (
      arith,
      modules-weigh 0 t.modules t.main,
      globals-weigh t.globals (f_modules t.modules (rcons (f_main t.main) rnil)),
    )

tree-natives : (t : Tree) → length t.natives ≤ weigh (f_tree t)
unfolding f_tree
tree-natives t = omega (arith, natives-weigh t.natives rnil)

-- ---- all records

module _ (t : Tree) (w : weigh (f_tree t) ≤ 32768) where
  natives : length t.natives ≤ 32768
  natives = omega (arith, tree-natives t, w)

  modules-light : (ms : List Module) (ds : List (List Filter)) (n : ℕ)
      → (length (imported_from 0 t.modules t.main) + length (globals_of t.globals)) + defs_weigh ms ≤ 32768 → AllLight 32768 (modules t ms ds n).more
  unfolding modules
  modules-light [] ds n h = tt
  modules-light (m ∷ ms) ds n h =
      let c : Top = top_of t ds m.uses in
      let d : Scope = defs c m.defs [] n empty in
      let o : Made (List (List Filter)) = modules t ms (ds ++ (filters d.env ∷ [])) (n + length d.more) in
      both 32768 d.more o.more (light-defs 32768 c natives (omega arith) (omega arith) m.defs rnil [] n empty (omega arith))
      (modules-light ms (ds ++ (filters d.env ∷ [])) (n + length d.more) (omega arith))

  table-light : AllLight 32768 (compile t).table
  unfolding compile
  table-light =
      let m : Made (List (List Filter)) = modules t t.modules [] 0 in
      let k : ℕ = length m.more in
      let c : Top = top_of t m.made t.main.uses in
      both 32768 m.more (slot (term c t.main.body [] (suc k) empty)) (modules-light t.modules [] 0 (omega (arith, tree-weigh t, w)))
      (light 32768 c natives (omega arith) (omega arith) t.main.body [] (suc k) empty (omega (arith, tree-weigh t, w)))

-- ---- numbers and lengths

args-length : (as' : List Arg) → length (arg_list 2 as') ≡ 3 * length as'
unfolding arg_list
args-length [] = refl
args-length (a ∷ as') = omega (arith, args-length as', length-append (number 2 a.num) (arg_list 2 as'), length-number 2 a.num)

step-length : (s : Step) → 3 ≤ length (step_bytes 2 s)
unfolding step_bytes opt_number
step-length (index n o) = omega (arith, length-append (number 2 n) (flag o ∷ []), length-number 2 n)
step-length (range i j o) = omega (arith, length-append (opt_number 2 i) (opt_number 2 j ++ (flag o ∷ [])), length-append (opt_number 2 j) (flag o ∷ []), opt i, opt j)
  where
    opt : (n : Option ℕ) → 1 ≤ length (opt_number 2 n)
    opt none = omega arith
    opt (some n) = omega arith

steps-length : (ss : List Step) → length ss ≤ length (steps_bytes 2 ss)
unfolding steps_bytes
steps-length [] = omega arith
steps-length (s ∷ ss) = omega (arith, steps-length ss, step-length s, length-append (step_bytes 2 s) (steps_bytes 2 ss))

pats-count : (xs : Pats) → pat_count 2 xs ≤ length (pats_bytes 2 xs)
unfolding pat_bytes
pats-count pats_nil = omega arith
pats-count (pats_cons k x xs) =
    omega (arith, pats-count xs, length-number 2 k, length-append (number 2 k) (pat_bytes 2 x ++ pats_bytes 2 xs), length-append (pat_bytes 2 x) (pats_bytes 2 xs))

fold-length : (f : Folding) → length (fold_bytes 2 f) ≤ 3
unfolding fold_bytes
fold-length reduce = omega arith
fold-length (foreach none) = omega arith
fold-length (foreach (some n)) = omega (arith, length-number 2 n)

module _ (T : Table) (D : Def → Type 0) (few : length T ≤ 4096) where
  small : (a : ℕ) → In T a → Small a
  small a h = omega arith

  small-opt : (a : Option ℕ) → InOpt T a → SmallOpt a
  small-opt none h = tt
  small-opt (some a) h = small a h

  small-args : (as' : List Arg) → InArgs T as' → SmallArgs as'
  small-args as' h = every_map (λ a. In T a.num) (λ a. Small a.num) as' (λ a k. small a.num k) h

  mutual
    unfolding pat_bytes

    small-pat : (x : Pat) → InPat T x → length (pat_bytes 2 x) < 65536 → SmallPat x
    small-pat pat_var h b = tt
    small-pat (pat_idx xs) h b =
        let l : length (number 2 (pat_count 2 xs) ++ pats_bytes 2 xs) ≡ length (number 2 (pat_count 2 xs)) + length (pats_bytes 2 xs) = length-append (number 2 (pat_count 2 xs)) (pats_bytes 2 xs) in
        (omega (arith, pats-count xs), small-pats xs h (omega arith))

    small-pats : (xs : Pats) → InPats T xs → length (pats_bytes 2 xs) < 65536 → SmallPats xs
    small-pats pats_nil h b = tt
    small-pats (pats_cons k x xs) h b =
        let l : length (number 2 k ++ (pat_bytes 2 x ++ pats_bytes 2 xs)) ≡ length (number 2 k) + length (pat_bytes 2 x ++ pats_bytes 2 xs) = length-append (number 2 k) (pat_bytes 2 x ++ pats_bytes 2 xs) in
        let m : length (pat_bytes 2 x ++ pats_bytes 2 xs) ≡ length (pat_bytes 2 x) + length (pats_bytes 2 xs) = length-append (pat_bytes 2 x) (pats_bytes 2 xs) in
        (small k h.0, small-pat x h.1 (omega arith), small-pats xs h.2 (omega arith))

  small-opt-pat : (x : Option Pat) → InOptPat T x → length (opt_pat_bytes 2 x) < 65536 → SmallOptPat x
  unfolding opt_pat_bytes
  small-opt-pat none h b = tt
  small-opt-pat (some x) h b = small-pat x h b

  small-steps : (ss : List Step) → Every (InStep T) ss → Every SmallStep ss
  small-steps ss h = every_map (InStep T) SmallStep ss each h
    where
      each : (s : Step) → InStep T s → SmallStep s
      each (index n o) k = small n k
      each (range i j o) k = (small-opt i k.0, small-opt j k.1)

  small-folding : (f : Folding) → InFold T f → SmallFolding f
  small-folding reduce h = tt
  small-folding (foreach n) h = small-opt n h

  -- a field of two numbers, or of a byte between them
  pair-room : (tag a b : ℕ) → length (field tag (number 2 a ++ number 2 b)) < 65539
  pair-room tag a b = omega (arith, length-field tag (number 2 a ++ number 2 b), length-append (number 2 a) (number 2 b), length-number 2 a, length-number 2 b)

  between-room : (tag a k b : ℕ) → length (field tag (number 2 a ++ (k ∷ number 2 b))) < 65539
  between-room tag a k b = omega (arith, length-field tag (number 2 a ++ (k ∷ number 2 b)), length-append (number 2 a) (k ∷ number 2 b), length-number 2 a, length-number 2 b)

  one-room : (tag a : ℕ) → length (field tag (number 2 a)) < 65539
  one-room tag a = omega (arith, length-field tag (number 2 a), length-number 2 a)

  none-room : (tag : ℕ) → length (field tag []) < 65539
  none-room tag = omega (arith, length-field tag [])

  node-fits : (x : Node) → Fine T D x → Light 32768 x → Fits x
  node-fits n_id h k = record { numbers = tt; room = none-room 0x50 }
  node-fits n_recurse h k = record { numbers = tt; room = none-room 0x51 }
  node-fits n_to_string h k = record { numbers = tt; room = none-room 0x52 }
  node-fits n_obj_empty h k = record { numbers = tt; room = none-room 0x57 }
  node-fits (n_arr a) h k = record { numbers = small a h; room = one-room 0x56 a }
  node-fits (n_label a) h k = record { numbers = small a h; room = one-room 0x5C a }
  node-fits (n_neg a) h k = record { numbers = small a h; room = one-room 0x5D a }
  node-fits (n_obj_single a b) h k = record { numbers = (small a h.0, small b h.1); room = pair-room 0x58 a b }
  node-fits (n_comma a b) h k = record { numbers = (small a h.0, small b h.1); room = pair-room 0x5F a b }
  node-fits (n_assign a b) h k = record { numbers = (small a h.0, small b h.1); room = pair-room 0x60 a b }
  node-fits (n_update a b) h k = record { numbers = (small a h.0, small b h.1); room = pair-room 0x61 a b }
  node-fits (n_update_alt a b) h k = record { numbers = (small a h.0, small b h.1); room = pair-room 0x63 a b }
  node-fits (n_alt a b) h k = record { numbers = (small a h.0, small b h.1); room = pair-room 0x67 a b }
  node-fits (n_try_catch a b) h k = record { numbers = (small a h.0, small b h.1); room = pair-room 0x68 a b }
  node-fits (n_update_math a i b) h k = record { numbers = (small a h.0, small b h.1); room = between-room 0x62 a i b }
  node-fits (n_math a i b) h k = record { numbers = (small a h.0, small b h.1); room = between-room 0x65 a i b }
  node-fits (n_cmp a i b) h k = record { numbers = (small a h.0, small b h.1); room = between-room 0x66 a i b }
  node-fits (n_logic a o b) h k = record { numbers = (small a h.0, small b h.1); room = between-room 0x64 a (flag o) b }
  node-fits (n_int i) h k = record { numbers = k; room = omega (arith, length-field 0x53 (number 8 i), length-number 8 i) }
  node-fits (n_num x) h k = record { numbers = tt; room = omega (arith, length-field 0x54 x) }
  node-fits (n_str x) h k = record { numbers = tt; room = omega (arith, length-field 0x55 x) }
  node-fits (n_var i) h k = record { numbers = omega arith; room = one-room 0x59 i }
  node-fits (n_ite a b c) h k = record { numbers = (small a h.0, small b h.1, small c h.2); room = omega (arith, length-field 0x69 (number 2 a ++ (number 2 b ++ number 2 c)), length-append (number 2 a) (number 2 b ++ number 2 c), length-append (number 2 b) (number 2 c), length-number 2 a, length-number 2 b, length-number 2 c) }
  node-fits (n_call_def n as' s how) h k =
      let c₁ : List ℕ = number 2 s ++ (kind_number how ∷ []) in
      let c₂ : List ℕ = arg_list 2 as' ++ c₁ in
      let c₃ : List ℕ = number 2 (length as') ++ c₂ in
      let l₁ : length c₁ ≡ 3 = omega (arith, length-append (number 2 s) (kind_number how ∷ []), length-number 2 s) in
      let l₂ : length c₂ ≡ 3 * length as' + 3 = omega (arith, length-append (arg_list 2 as') c₁, args-length as') in
      let l₃ : length c₃ ≡ 3 * length as' + 5 = omega (arith, length-append (number 2 (length as')) c₂, length-number 2 (length as')) in
      record {
        numbers = (small n h.0, omega arith, small-args as' h.1, omega arith);
        room = omega (arith, length-field 0x5A (number 2 n ++ c₃), length-append (number 2 n) c₃, length-number 2 n);
      }
  node-fits (n_native i as') h k =
      let c₁ : List ℕ = number 2 (length as') ++ arg_list 2 as' in
      let l₁ : length c₁ ≡ 3 * length as' + 2 = omega (arith, length-append (number 2 (length as')) (arg_list 2 as'), length-number 2 (length as'), args-length as') in
      record {
        numbers = (omega arith, omega arith, small-args as' h);
        room = omega (arith, length-field 0x5B (number 2 i ++ c₁), length-append (number 2 i) c₁, length-number 2 i);
      }
  node-fits (n_pipe a x b) h k =
      let c₁ : List ℕ = opt_pat_bytes 2 x ++ number 2 b in
      let l₁ : length c₁ ≡ length (opt_pat_bytes 2 x) + 2 = omega (arith, length-append (opt_pat_bytes 2 x) (number 2 b), length-number 2 b) in
      record {
        numbers = (small a h.0, small-opt-pat x h.1 (omega arith), small b h.2);
        room = omega (arith, length-field 0x5E (number 2 a ++ c₁), length-append (number 2 a) c₁, length-number 2 a);
      }
  node-fits (n_fold a x b c f) h k =
      let c₁ : List ℕ = (number 2 b ++ number 2 c) ++ fold_bytes 2 f in
      let c₂ : List ℕ = pat_bytes 2 x ++ c₁ in
      let l₁ : length c₁ ≤ 7 =
      omega (arith, length-append (number 2 b ++ number 2 c) (fold_bytes 2 f), length-append (number 2 b) (number 2 c), length-number 2 b, length-number 2 c, fold-length f) in
      record {
        numbers = (small a h.0, small-pat x h.1 (omega arith), small b h.2, small c h.3, small-folding f h.4);
        room = omega (arith, length-field 0x6A (number 2 a ++ c₂), length-append (number 2 a) c₂, length-append (pat_bytes 2 x) c₁, length-number 2 a);
      }
  node-fits (n_path a ss) h k =
      let c₁ : List ℕ = number 2 (length ss) ++ steps_bytes 2 ss in
      let l₁ : length c₁ ≡ length (steps_bytes 2 ss) + 2 = omega (arith, length-append (number 2 (length ss)) (steps_bytes 2 ss), length-number 2 (length ss)) in
      record {
        numbers = (small a h.0, omega (arith, steps-length ss), small-steps ss h.1);
        room = omega (arith, length-field 0x6B (number 2 a ++ c₁), length-append (number 2 a) c₁, length-number 2 a);
      }

  all_fit : (rs : List Rec) → Every (λ r. Fine T D r.node) rs → AllLight 32768 rs → Every (λ r. Fits r.node) rs
  all_fit [] h k = tt
  all_fit (r ∷ rs) h k = (node-fits r.node h.0 k.0, all_fit rs h.1 k.1)

-- what is listed of a tree fits, with errors or without
pub fits : (t : Tree) → weigh (f_tree t) ≤ 32768 → inserted t ≤ 4096 → Every (λ r. Fits r.node) (compile t).table × Small (compile t).main
fits t w i =
    let few : length (compile t).table ≤ 4096 = omega (arith, table-count t, i) in
    let f = table-fine t in
    (all_fit (compile t).table (Of t) few (compile t).table f.0 (table-light t w), omega (arith, f.1))
