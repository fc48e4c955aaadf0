-- What the rows in memory stand for. Four numbers a row; what a search starts from stands in the cells before them. Assumes nothing.
use Rattle.std.specs.Prelude.{ℕ, zero, suc, ◌+◌, ◌-◌, ◌*◌, ◌/◌, ◌%◌, ◌≤◌, ◌<◌, ◌≡◌, true, cond, List, [], ◌∷◌, ◌++◌, eqb, ltb, length, get_or, set, take}
use Rattle.std.proofs.lemmas.List.Edits.{sets}
use Rattle.tree.specs.Rose.{node, rnil, end_of, text_of, At}
use Rattle.tree.specs.Tree.{Name, Native}
use Rattle.tree.specs.Form.{f_imports, f_numbers}
use Rattle.tree.specs.Numbers.{uses_below}
use Rattle.rules.specs.Tails.{parent, sibling}
use Rattle.rules.specs.Rows.{var, label, arg, filter, Filter, Env, count, level, filters}
use Rattle.rules.specs.Filters.{Imported, Top, home_of}
use Rattle.rules.specs.Lists.{Member, Every}
use Rattle.rules.specs.Returns.{Lone}
use Rattle.rules.specs.Modules.{imported_by}
use Rattle.reads.specs.Bytes.{name_at, names_of, Fields, word_of, head_of}

-- ---- a row's numbers

abbrev pub cell : List ℕ → ℕ → ℕ → ℕ
cell s j c = get_or s (4 * j + c) 0

abbrev pub word_at : List ℕ → ℕ → ℕ
word_at s j = cell s j 0

-- class + 4 * length of the name + 2^18 * arity
abbrev pub key_of : ℕ → ℕ → ℕ → ℕ
key_of class l a = class + 4 * l + 262144 * a

abbrev pub key_at : List ℕ → ℕ → ℕ
key_at s j = cell s j 1 % 17179869184

abbrev pub arity_at : List ℕ → ℕ → ℕ
arity_at s j = key_at s j / 262144

abbrev pub number_at : List ℕ → ℕ → ℕ
number_at s j = cell s j 1 / 17179869184 % 65536

abbrev pub kind_at : List ℕ → ℕ → ℕ
kind_at s j = cell s j 2 / 35184372088832 % 8

abbrev pub level_at : List ℕ → ℕ → ℕ
level_at s j = cell s j 1 / 1125899906842624

abbrev pub link_at : List ℕ → ℕ → ℕ
link_at s j = cell s j 2 % 16384

abbrev pub head_at : List ℕ → ℕ → ℕ
head_at s j = cell s j 2 / 16384 % 65536

abbrev pub place_at : List ℕ → ℕ → ℕ
place_at s j = cell s j 2 / 1073741824 % 32768

abbrev pub before_at : List ℕ → ℕ → ℕ
before_at s j = cell s j 2 / 281474976710656

abbrev pub last_at : List ℕ → ℕ → ℕ
last_at s j = cell s j 3

abbrev pub class_of : ℕ → ℕ
class_of kind = cond (ltb kind 2) kind 2

-- the cells of a row: its bucket's next row, and all else
abbrev pub cells : ℕ → ℕ → ℕ → ℕ → ℕ → ℕ → ℕ → ℕ → ℕ → ℕ → ℕ → List ℕ
cells w l h next kind q a n c lv set =
    w ∷ (key_of (class_of kind) l a + n * 17179869184 + lv * 1125899906842624)
    ∷ (next + h * 16384 + q * 1073741824 + kind * 35184372088832 + c * 281474976710656)
    ∷ set ∷ []

-- row k is pushed, for the name x, and its head leads to it
unfoldable pub pushed : List ℕ → List ℕ → ℕ → ℕ → ℕ → ℕ → ℕ → ℕ → ℕ → ℕ → List ℕ
pushed x s k kind q a n c lv tail =
    let h = head_of (get_or s 0 0) (word_of x) (length x) in
    set (sets s (4 * k) (cells (word_of x) (length x) h (get_or s h 0) kind q a n c lv tail)) h k

-- and it counts
unfoldable pub bound_as : List ℕ → List ℕ → ℕ → ℕ → ℕ → ℕ → List ℕ
bound_as x s k kind q n = set (pushed x s k kind q 0 n (get_or s 1 0) 0 0) 1 (get_or s 1 0 + 1)

-- row k keeps two numbers
unfoldable pub noted : List ℕ → ℕ → ℕ → ℕ → ℕ → List ℕ
noted s k kind a z = set (set (set s (4 * k + 1) (3 + a * 17179869184)) (4 * k + 2) (kind * 35184372088832)) (4 * k + 3) z

-- ---- what a module sees: ghosts of the code

pub record View : Type 0 where
  -- past its locals
  pub top : Top
  -- heads less one
  pub mask : ℕ
  -- natives are the rows from `first` up to `globals`, globals those up to `past`
  pub first : ℕ
  pub globals : ℕ
  pub past : ℕ
  -- the module's imported variables are the rows from `own` up to `locals`, its locals those from there on
  pub own : ℕ
  pub locals : ℕ

-- bindings that are no locals
abbrev pub outer : View → ℕ
outer vw = length vw.top.globals + length vw.top.imported

-- ---- rows as bindings

-- the definition of row j
abbrev pub filter_at : List ℕ → List ℕ → ℕ → ℕ → Filter
filter_at b s m j =
    record {
      name = name_at b (place_at s j);
      params = names_of b (arity_at s j) (end_of b (place_at s j));
      number = number_at s j;
      count = before_at s j - m;
      level = level_at s j;
      fun = cond (eqb (kind_at s j) 3) parent (sibling (last_at s j));
    }

-- the binding of row j, m being those that are no locals; a note is none
unfoldable pub row_at : List ℕ → List ℕ → ℕ → ℕ → Env
row_at b s m j =
    cond (eqb (kind_at s j) 0) (var (name_at b (place_at s j)) ∷ [])
    (cond (eqb (kind_at s j) 1) (label (name_at b (place_at s j)) ∷ [])
    (cond (eqb (kind_at s j) 2) (arg (name_at b (place_at s j)) ∷ []) (cond (ltb (kind_at s j) 5) (filter (filter_at b s m j) ∷ []) [])))

-- the n rows from lo on, the last first
unfoldable pub rows_of : List ℕ → List ℕ → ℕ → ℕ → ℕ → Env
rows_of b s m lo zero = []
rows_of b s m lo (suc n) = row_at b s m (lo + n) ++ rows_of b s m lo n

-- the locals: rows up to k
abbrev pub env_of : View → List ℕ → List ℕ → ℕ → Env
env_of vw b s k = rows_of b s (outer vw) vw.locals (k - vw.locals)

-- ---- rows in view

-- of the n rows from lo on those that are no notes, the last first
unfoldable pub bound : List ℕ → ℕ → ℕ → List ℕ
bound s lo zero = []
bound s lo (suc n) = cond (ltb (kind_at s (lo + n)) 6) ((lo + n) ∷ bound s lo n) (bound s lo n)

-- innermost first: locals and the module's own imported variables, then globals and natives
abbrev pub in_view : View → List ℕ → ℕ → List ℕ
in_view vw s k = bound s vw.own (k - vw.own) ++ bound s vw.first (vw.past - vw.first)

-- those of one bucket
unfoldable pub bucket : List ℕ → ℕ → List ℕ → List ℕ
bucket s h [] = []
bucket s h (j ∷ js) = cond (eqb (head_at s j) h) (j ∷ bucket s h js) (bucket s h js)

-- from row j on the links visit the rows js; row 0 is none
unfoldable pub Chain : List ℕ → ℕ → List ℕ → Type 0
Chain s j [] = j ≡ 0
Chain s j (i ∷ is) = (j ≡ i) × (0 < i) × Chain s (link_at s i) is

-- ---- what makes rows safe to read, and right

-- a row that is no note
pub record Good (m : ℕ) (b s : List ℕ) (j : ℕ) : Type 0 where
  pub name : end_of b (place_at s j) ≤ length b
  pub params : Fields b (arity_at s j) (end_of b (place_at s j))
  pub word : word_at s j ≡ word_of (text_of b (place_at s j))
  pub key : key_at s j ≡ key_of (class_of (kind_at s j)) (length (text_of b (place_at s j))) (arity_at s j)
  pub head : head_at s j ≡ head_of m (word_at s j) (length (text_of b (place_at s j)))
  -- a variable, label or filter argument has no parameters
  pub plain : kind_at s j < 3 → arity_at s j ≡ 0

-- the names of the rows from lo on are those of the list, in order; each has i bindings before it, and one more each
unfoldable pub Vars : List ℕ → List ℕ → ℕ → ℕ → List Name → Type 0
Vars b s lo i [] = Unit {0}
Vars b s lo i (x ∷ xs) = (kind_at s lo ≡ 0) × (name_at b (place_at s lo) ≡ x) × (before_at s lo ≡ i) × Vars b s (suc lo) (suc i) xs

-- natives up to row hi, of number n and on, the first in the last row
unfoldable pub Natives : List ℕ → List ℕ → ℕ → ℕ → List Native → Type 0
Natives b s hi n [] = Unit {0}
Natives b s hi n (v ∷ vs) =
    (kind_at s (hi - 1) ≡ 5) × (name_at b (place_at s (hi - 1)) ≡ v.name) × (names_of b (arity_at s (hi - 1)) (end_of b (place_at s (hi - 1))) ≡ v.params) × (number_at s (hi - 1) ≡ n)
    × Natives b s (hi - 1) (suc n) vs

-- a module's cell: where its rows start, and where they end
abbrev pub low_of : ℕ → ℕ
low_of x = x % 65536

abbrev pub high_of : ℕ → ℕ
high_of x = x / 65536

pub record Kept (vw : View) (b s : List ℕ) (x : ℕ) (ds : List Filter) : Type 0 where
  pub above : vw.past ≤ low_of x
  pub order : low_of x ≤ high_of x
  pub below : high_of x ≤ vw.own
  -- a module's definitions have no locals before them
  pub good : (j : ℕ) → low_of x ≤ j → j < high_of x → Good vw.mask b s j × (kind_at s j ≡ 4) × (before_at s j ≡ outer vw)
  pub are : filters (rows_of b s (outer vw) (low_of x) (high_of x - low_of x)) ≡ ds

-- The module's imported variables among those of all modules: "all modules' imported variables .., matching only the current module's". They have the
-- globals and the variables of the modules before before them
pub record Mine (vw : View) (b s : List ℕ) : Type 0 where
  pub names : List Name
  pub before : List Imported
  pub after : List Imported
  pub are : vw.top.imported ≡ before ++ (imported_by (home_of vw.top) names ++ after)
  pub others : Every (λ (v : Imported). v.home ≡ home_of vw.top → ⊥) (before ++ after)
  pub rows : Vars b s vw.own (length vw.top.globals + length before) names
  pub rest : vw.locals ≡ vw.own + length names

-- what stands below the locals
pub record Based (vw : View) (b s : List ℕ) : Type 0 where
  pub mask : get_or s 0 0 ≡ vw.mask
  pub heads : 9 + vw.mask ≤ 4 * vw.first
  pub home : get_or s 3 0 ≡ home_of vw.top
  pub imports : At b (node 0x86 (get_or s 4 0) (f_imports vw.top.uses.imports rnil))
  pub includes : At b (node 0x87 (get_or s 5 0) (f_numbers vw.top.uses.includes rnil))
  pub modules : (i : ℕ) (ds : List Filter) → i < home_of vw.top → get_or vw.top.earlier i [] ≡ ds → Kept vw b s (get_or s (get_or s 6 0 + i) 0) ds
  pub cells : get_or s 6 0 + home_of vw.top ≤ 4 * vw.own
  pub natives : Natives b s vw.globals 0 vw.top.natives
  pub few : vw.globals ≡ vw.first + length vw.top.natives
  pub globals : Vars b s vw.globals 0 vw.top.globals
  pub rest : vw.past ≡ vw.globals + length vw.top.globals
  pub order : vw.past ≤ vw.own
  -- the modules' cells are no heads, and no binding's count outgrows its field
  pub past : 4 * vw.past ≤ get_or s 6 0
  pub light : outer vw ≤ 32768
  pub mine : Mine vw b s
  -- "a module may use only earlier modules"
  pub uses : uses_below (home_of vw.top) vw.top.uses ≡ true
  -- "Module calls return nothing": a module's definition returns at most itself
  pub lone : Every (Every Lone) vw.top.earlier

-- a row of the locals: no native, and, if it is no note, with the bindings before it that there were when it was pushed; a definition has those before its
-- parameters
pub record Local (vw : View) (b s : List ℕ) (j : ℕ) : Type 0 where
  pub kinds : kind_at s j ≡ 5 → ⊥
  pub counts : kind_at s j < 3 → before_at s j ≡ outer vw + count (env_of vw b s j)
  pub defined : 3 ≤ kind_at s j → kind_at s j < 5 → (outer vw ≤ before_at s j) × (before_at s j ≤ outer vw + count (env_of vw b s j))

-- what is in view at row k, above the locals too
pub record Seen (vw : View) (b s : List ℕ) (k : ℕ) : Type 0 where
  pub base : Based vw b s
  pub order : (vw.own ≤ vw.locals) × (vw.locals ≤ k)
  pub within : 4 * k ≤ length s
  -- so a row's number, its level and its head fit their fields
  pub small : length s ≤ 65536
  pub view : get_or s 1 0 ≡ outer vw + count (env_of vw b s k)
  pub above : get_or s 2 0 ≡ level (env_of vw b s k)
  pub good : (j : ℕ) → Member j (in_view vw s k) → Good vw.mask b s j
  pub locals : (j : ℕ) → vw.locals ≤ j → j < k → Local vw b s j
  pub linked : (h : ℕ) → 8 ≤ h → h ≤ 8 + vw.mask → Chain s (get_or s h 0) (bucket s h (in_view vw s k))

-- ---- leaving the view

unfoldable pub unlinked : List ℕ → ℕ → List ℕ
unlinked s j = cond (ltb (kind_at s j) 6) (set s (head_at s j) (link_at s j)) s

-- the n rows from k on, the last first
unfoldable pub unlinked_all : List ℕ → ℕ → ℕ → List ℕ
unlinked_all s k zero = s
unlinked_all s k (suc n) = unlinked_all (unlinked s (k + n)) k n

-- they left the view, and c bindings are in it
abbrev pub closed : List ℕ → ℕ → ℕ → ℕ → List ℕ
closed s k i c = set (unlinked_all s k (i - k)) 1 c

-- the rows from k up to i came into view: when they leave it, whatever was done above them, the rows below k are as they were
pub record Opened (s s' : List ℕ) (k i : ℕ) : Type 0 where
  pub order : k ≤ i
  pub same : length s' ≡ length s
  pub back : (t : List ℕ) → length t ≡ length s → take (4 * i) t ≡ take (4 * i) s' → take (4 * k) (closed t k i (get_or s 1 0)) ≡ take (4 * k) s

-- there is room for row k, and its head's cell stands below it
pub record Room (s : List ℕ) (k : ℕ) : Type 0 where
  pub row : 4 * k + 4 ≤ length s
  pub few : k < 65536
  pub heads : 9 + get_or s 0 0 ≤ 4 * k
  pub links : (h : ℕ) → 8 ≤ h → h ≤ 8 + get_or s 0 0 → get_or s h 0 < 65536

-- rows may be pushed from row k on, for names that stand from place q on
pub record Pushing (b s : List ℕ) (k q : ℕ) : Type 0 where
  pub small : length b ≤ 32768
  pub view : View
  pub seen : Seen view b s k
  pub spare : 12 * k + 4 * (length b - q) ≤ 3 * length s
