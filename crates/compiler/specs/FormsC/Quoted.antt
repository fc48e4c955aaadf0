-- Strings: the format, a string that is one text, and the sum of the parts. Assumes nothing.
use Rattle.std.specs.Prelude.{ℕ, ◌+◌, ◌-◌, ◌*◌, ◌^◌, ◌≤◌, ◌<◌, ◌≡◌, refl, Bool, true, false, cond, ◌&&◌, List, [], ◌∷◌, ◌++◌, eqb, length, get_or, take, drop}
use Rattle.std.proofs.Common.{arith, sym, ap, ap₂, subst, ◌∙◌, append_assoc, length-append, eqb-true}
use Rattle.std.proofs.lemmas.List.{length-map}
use Rattle.reads.specs.Texts.{text-slice}
use Rattle.fields.specs.Field.{field, length-field}
use Rattle.fields.specs.Room.{overlay}
use Rattle.tree.specs.Rose.{end_of, text_of, rnil, Row, row-le}
use Rattle.tree.proofs.Match.{not-both}
use Rattle.tree.specs.Tree.{Term, Format, no_format, StrParts, s_nil, s_cons, StrPart, s_text, t_str}
use Rattle.tree.specs.Form.{f_format, f_str_parts}
use Rattle.rules.specs.Table.{Rec, Node, n_str, n_to_string, Err}
use Rattle.rules.specs.Tails.{empty}
use Rattle.rules.specs.Outs.{Out, slot, size, bare, sum_out, sum_or}
use Rattle.rules.specs.Listing.{node_bytes, rec_bytes, table_bytes}
use Rattle.rules.specs.Rules.{term, called, format_out, strings}
use Rattle.reads.specs.Bytes.{TermAt, name_at, is_tag, past}
use Rattle.reads.specs.Widths.{strings_width, is_plain}
use Rattle.reads.specs.Lengths.{own-str}
use Rattle.reads.specs.Shapes.{StrAt, on-str, on-format, on-no-format, on-strings-cons, on-strings-nil, on-text-part, text-length, tag-yes, tag-no}
use Rattle.puts.specs.declared.state.State.{State}
use Rattle.puts.specs.State.{num, off, ers, start_of, spot_of, next_of, Put, Own, with_num, with_off}
use Rattle.puts.specs.Rooms.{put_then, put_one, own-one, table-append, start-high, placed-within}
use Rattle.cells.specs.Cells.{View, Seen, env_of}
use Rattle.cells.specs.Notes.{strings_of, held, held_errs, string_nodes, summed}
use Rattle.cells.specs.Flat.{nodes_of}
use Rattle.records.specs.Sums.{Summands, string-summands, SumReady, SumPut}
use Rattle.compiler.specs.Post.{Ready, Stands, Placed, Did, Strung}
use Rattle.compiler.specs.Pieces.{FormatIs, plain_out}
use Rattle.compiler.specs.Common.{off-num, off-ers, off-off, Made, did_of, bare-long}
use Rattle.compiler.specs.FormsC.Paths.{past-low, row_on}
use Rattle.compiler.specs.FormsC.Sums.{strings-flat, summed-size, summed-count, sum-state, sum-own}
use Rattle.compiler.specs.FormsC.Strings.{StringsHere}

-- ---- the format

pub past-some : (b : List ℕ) (p z tag q : ℕ) → q ≡ past b p z tag → p < q → (is_tag b p z tag ≡ true) × (q ≡ end_of b p)
past-some b p z tag q e l = go (is_tag b p z tag) refl e
  where
    go : (u : Bool) → is_tag b p z tag ≡ u → q ≡ cond u (end_of b p) p → (is_tag b p z tag ≡ true) × (q ≡ end_of b p)
    go true i j = (i, j)
    go false i j = absurd (omega (arith, l, j))

pub past-none : (b : List ℕ) (p z tag q : ℕ) → q ≡ past b p z tag → q ≤ p → is_tag b p z tag ≡ false
past-none b p z tag q e l = go (is_tag b p z tag) refl e
  where
    go : (u : Bool) → is_tag b p z tag ≡ u → q ≡ cond u (end_of b p) p → is_tag b p z tag ≡ false
    go true i j = absurd (omega (arith, l, j))
    go false i j = i

-- the parts start behind it
pub format-past : (b : List ℕ) (p z : ℕ) (f : Format) (xs : StrParts) → Row b (f_format f (f_str_parts xs rnil)) p z → Row b (f_str_parts xs rnil) (past b p z 0xBA) z
format-past b p z f xs h = go (is_tag b p z 0xBA) refl
  where
    go : (u : Bool) → is_tag b p z 0xBA ≡ u → Row b (f_str_parts xs rnil) (cond u (end_of b p) p) z
    go true e = let y = tag-yes b p z 0xBA e in on-format b p z (λ _. Row b (f_str_parts xs rnil) (end_of b p) z) xs y.0 y.1 (λ l w. w) f h
    go false e = on-no-format b p z (λ _. Row b (f_str_parts xs rnil) p z) xs (tag-no b p z 0xBA e) (λ w. w) f h

-- some format and parts stand from p up to z, q being where the parts start
abbrev pub FormatHere : List ℕ → ℕ → ℕ → Type 0
FormatHere b p q = (f : Format) × (xs : StrParts) × (z : ℕ) × Row b (f_format f (f_str_parts xs rnil)) p z × (q ≡ past b p z 0xBA) × (z ≤ length b)

pub format-fits : (b : List ℕ) (p q : ℕ) → FormatHere b p q → p < q → (q ≡ end_of b p) × (end_of b p ≤ length b)
format-fits b p q g l =
    let s = past-some b p g.2 0xBA q g.4 l in
    let y = tag-yes b p g.2 0xBA s.0 in
    (s.1, on-format b p g.2 (λ _. end_of b p ≤ length b) g.1 y.0 y.1 (λ i w. i.fits) g.0 g.3)

pub format-long : (b : List ℕ) (p q : ℕ) → FormatHere b p q → p < q → length b ≤ 32768 → length (take (q - (p + 3)) (drop (p + 3) b)) < 65536
format-long b p q g l h = let f = format-fits b p q g l in omega (arith, h, f.1, ap length (text-slice b p q f.0), text-length b p f.1)

pub format-call : (b : List ℕ) (p q at : ℕ) (x s : List ℕ) (st st₁ : State) (d d₁ : List ℕ) → p < q → x ≡ text_of b p → at ≡ p + 3
    → ((vw : View) (k i : ℕ) → Seen vw b s k → let a = called vw.top i x at 0 (bare []) (env_of vw b s k) empty in Put (slot a) a.errs st st₁ d d₁)
    → num st₁ ≡ num st + 1 → off st₁ ≤ off st + 10 → ers st₁ ≤ ers st + 11
    → FormatIs b p q s st st₁ d d₁
unfolding format_out
format-call b p q at x s st st₁ d d₁ l x₀ at₀ f n o e =
    record {
      is = λ vw k v F xs z i j h.
          let y = tag-yes b p z 0xBA (past-some b p z 0xBA q j l).0 in
          on-format b p z (λ (F : Format). let a = format_out vw.top F i (env_of vw b s k) in Put (slot a) a.errs st st₁ d d₁) xs y.0 y.1
          (λ u w. subst (λ (t : ℕ). let a = called vw.top i (text_of b p) t 0 (bare []) (env_of vw b s k) empty in Put (slot a) a.errs st st₁ d d₁) at₀
          (subst (λ (t : List ℕ). let a = called vw.top i t at 0 (bare []) (env_of vw b s k) empty in Put (slot a) a.errs st st₁ d d₁) x₀ (f vw k i v)))
          F h;
      nums = n;
      offs = o;
      errs = e;
    }

pub format-bare : (b : List ℕ) (p q x : ℕ) (s : List ℕ) (st st₁ : State) (d d₁ : List ℕ) → q ≤ p → x ≡ off st → st₁ ≡ with_off (with_num st (num st + 1)) (off st + 3) → d₁ ≡ overlay d x (field 0x52 [])
    → FormatIs b p q s st st₁ d d₁
unfolding format_out
format-bare b p q x s st st₁ d d₁ l x₀ e j =
    record {
      is = λ vw k v F xs z i q₀ h. on-no-format b p z (λ (F : Format). let a = format_out vw.top F i (env_of vw b s k) in Put (slot a) a.errs st st₁ d d₁) xs (tag-no b p z 0xBA (past-none b p z 0xBA q q₀ l)) (λ w. put i) F h;
      nums = (put 0).nums;
      offs = omega (arith, (put 0).offs, three);
      errs = omega (arith, (put 0).errs);
    }
  where
    put : (i : ℕ) → Put (record { place = i; node = n_to_string } ∷ []) [] st st₁ d d₁
    put i = put_one (record { place = i; node = n_to_string }) 3 x st st₁ d d₁ (bare-long 0x52) x₀ e j

    three : length (table_bytes 2 (record { place = 0; node = n_to_string } ∷ [])) ≡ 3
    three = length-append (field 0x52 []) [] ∙ ap (λ (n : ℕ). n + 0) (sym (bare-long 0x52))

-- ---- one text

pub plain-is : (b : List ℕ) (q z o w x y : ℕ) (u : List ℕ) (st st₁ st₂ st₃ : State) (d d₁ d₂ : List ℕ) → end_of b q ≡ z → z ≤ length b → w ≡ z - q
    → st₁ ≡ with_off st (start_of o (off st) w) → x ≡ off st₁ → st₂ ≡ with_off (with_num st₁ (num st₁ + 1)) (off st₁ + 3) → d₁ ≡ overlay d x (field 0x52 [])
    → y ≡ spot_of o (off st₂) → st₃ ≡ with_off st₂ (next_of o (off st₂) w) → u ≡ text_of b q → d₂ ≡ overlay d₁ y (field 0x55 u)
    → (at : ℕ) → Own (plain_out at (text_of b q)) o st st₃ d d₂
plain-is b q z o w x y u st st₁ st₂ st₃ d d₁ d₂ z₀ h w₀ e x₀ f i y₀ g u₀ j at =
    own-one at (n_str (text_of b q)) empty (record { place = at; node = n_to_string } ∷ []) [] o w y st st₁ st₂ st₃ d d₁ d₂
    (omega (arith, w₀, z₀, h, text-length b q (omega (arith, z₀, h)), length-field 0x55 (text_of b q))) e
    (put_one (record { place = at; node = n_to_string }) 3 x st₁ st₂ d d₁ (bare-long 0x52) x₀ f i)
    y₀ g (j ∙ ap (λ (v : List ℕ). overlay d₁ y (field 0x55 v)) u₀)

pub plain-yes : (b : List ℕ) (q z : ℕ) → is_plain b q z ≡ true → (q < z) × (get_or b q 0 ≡ 0xBB) × (end_of b q ≡ z)
plain-yes b q z e =
    let y = tag-yes b q z 0xBB (and_left (is_tag b q z 0xBB) (eqb (end_of b q) z) e) in
    (y.0, y.1, eqb-true (end_of b q) z (and_right (is_tag b q z 0xBB) (eqb (end_of b q) z) e))
  where
    and_left : (u v : Bool) → (u && v) ≡ true → u ≡ true
    and_left true v i = refl
    and_left false v i = i

    and_right : (u v : Bool) → (u && v) ≡ true → v ≡ true
    and_right true v i = i
    and_right false v i = not-both false i refl

-- what such a string is
pub on-plain : (b : List ℕ) (p : ℕ) (P : Term → Type 0) → get_or b p 0 ≡ 0xAF → is_plain b (p + 3) (end_of b p) ≡ true
    → (end_of b p ≤ length b → P (t_str p no_format (s_cons (s_text (name_at b (p + 3))) s_nil))) → (t : Term) → TermAt b t p → P t
on-plain b p P e i f = on-str b p P e (λ F xs n. format F xs n.fits n.parts)
  where
    z : ℕ
    z = end_of b p

    y : (p + 3 < z) × (get_or b (p + 3) 0 ≡ 0xBB) × (end_of b (p + 3) ≡ z)
    y = plain-yes b (p + 3) z i

    from_parts : (xs : StrParts) → z ≤ length b → Row b (f_str_parts xs rnil) (p + 3) z → P (t_str p no_format xs)
    from_parts xs l h =
        on-strings-cons b (p + 3) z (λ (xs : StrParts). P (t_str p no_format xs)) y.0
        (λ x xs g j r.
        on-text-part b (p + 3) (λ (x : StrPart). P (t_str p no_format (s_cons x xs))) y.1
        (λ m. on-strings-nil b (end_of b (p + 3)) z (λ (xs : StrParts). P (t_str p no_format (s_cons (s_text (name_at b (p + 3))) xs))) (omega (arith, y.2)) (f l) xs r) x g)
        xs h

    format : (F : Format) (xs : StrParts) → z ≤ length b → Row b (f_format F (f_str_parts xs rnil)) (p + 3) z → P (t_str p F xs)
    format F xs l h = on-no-format b (p + 3) z (λ (F : Format). P (t_str p F xs)) xs (λ g t. omega (arith, t, y.1)) (from_parts xs l) F h

pub plain-did : (b : List ℕ) (p : ℕ) (s : List ℕ) (k o r : ℕ) (st st' : State) (d d' : List ℕ) → get_or b p 0 ≡ 0xAF → is_plain b (p + 3) (end_of b p) ≡ true → Ready b s k (p + 1) (end_of b p) st → Stands b p
    → ((at : ℕ) → Own (plain_out at (text_of b (p + 3))) o st st' d d') → r ≡ 0 → (al : ℕ) → Did b p s s k o st st' d d' al r
unfolding term format_out sum_out
plain-did b p s k o r st st' d d' e i y g m r₀ al =
    let h = plain-yes b (p + 3) (end_of b p) i in
    did_of b p s s k o st st' d d' al r y g
    (λ vw v. on-plain b p (λ (t : Term). Made b p (term vw.top t (env_of vw b s k) (num st) al) o st st' d d' r) e i
    (λ l. record { own = m p; tail = r₀; wide = omega (arith, h.2, l, bare-long 0x52, text-length b (p + 3) (omega (arith, h.2, l)), length-field 0x55 (text_of b (p + 3)), length-append (field 0x52 []) []) }))
    refl refl
    (omega (arith, (m 0).nums, h.2)) (omega (arith, (m 0).errs, h.2))

-- ---- a string in general: the format, the parts, then their sum

pub str-shape : (b : List ℕ) (p : ℕ) → get_or b p 0 ≡ 0xAF → Stands b p → (f : Format) × (xs : StrParts) × StrAt b p f xs
str-shape b p e g = on-str b p (λ _. (f : Format) × (xs : StrParts) × StrAt b p f xs) e (λ f xs h. (f, xs, h)) g.0 g.1

-- how wide its own record is
abbrev pub StrWide : List ℕ → ℕ → ℕ → Type 0
StrWide b p w = (xs : StrParts) → Row b (f_str_parts xs rnil) (past b (p + 3) (end_of b p) 0xBA) (end_of b p) → w ≡ strings_width xs

pub str-parts : (b : List ℕ) (p : ℕ) → get_or b p 0 ≡ 0xAF → Stands b p → StringsHere b (past b (p + 3) (end_of b p) 0xBA) (end_of b p)
str-parts b p e g = let a = str-shape b p e g in (a.1, format-past b (p + 3) (end_of b p) a.0 a.1 a.2.parts)

pub str-format : (b : List ℕ) (p : ℕ) → get_or b p 0 ≡ 0xAF → Stands b p → FormatHere b (p + 3) (past b (p + 3) (end_of b p) 0xBA)
str-format b p e g = let a = str-shape b p e g in (a.0, a.1, end_of b p, a.2.parts, refl, a.2.fits)

pub str-past : (b : List ℕ) (p : ℕ) → get_or b p 0 ≡ 0xAF → Stands b p → (past b (p + 3) (end_of b p) 0xBA ≤ end_of b p) × (end_of b p ≤ length b)
str-past b p e g =
    let a = str-shape b p e g in
    let h = str-parts b p e g in
    (row-le b (f_str_parts h.0 rnil) (past b (p + 3) (end_of b p) 0xBA) (end_of b p) h.1, a.2.fits)

module _ (b : List ℕ) (p : ℕ) (s : List ℕ) (k o w : ℕ) (st st₁ st₂ : State) (d d₁ : List ℕ) (e : get_or b p 0 ≡ 0xAF) (y : Ready b s k (p + 1) (end_of b p) st) (g : Stands b p)
    (few : w ≤ 1048576) (f : st₁ ≡ with_off st (start_of o (off st) w)) (fm : FormatIs b (p + 3) (past b (p + 3) (end_of b p) 0xBA) s st₁ st₂ d d₁) where
  format-put : (vw : View) → Seen vw b s k → (F : Format) (xs : StrParts) → StrAt b p F xs → let a = format_out vw.top F p (env_of vw b s k) in Put (slot a) a.errs st₁ st₂ d d₁
  format-put vw v F xs n = fm.is vw k v F xs (end_of b p) p refl n.parts

  pub str-ready : Ready b s k (past b (p + 3) (end_of b p) 0xBA) (end_of b p) st₂
  str-ready =
      let l = past-low b (p + 3) (end_of b p) 0xBA in
      let h = (str-past b p e g).0 in
      record {
        small = y.small;
        view = y.view;
        seen = y.seen;
        order = h;
        within = y.within;
        spare = omega (arith, y.spare, l, h, y.within);
        nums = omega (arith, y.nums, l, h, fm.nums, off-num st st₁ (start_of o (off st) w) f);
        offs = omega (arith, y.offs, l, h, fm.offs, few, off-off st st₁ (start_of o (off st) w) f, start-high o (off st) w);
        errs = omega (arith, y.errs, l, h, fm.errs, off-ers st st₁ (start_of o (off st) w) f);
      }

module _ (b : List ℕ) (p : ℕ) (s s₁ : List ℕ) (k o i w F : ℕ) (st st₁ st₂ st₃ : State) (d d₁ d₂ : List ℕ) (e : get_or b p 0 ≡ 0xAF) (y : Ready b s k (p + 1) (end_of b p) st) (g : Stands b p)
    (few : w ≤ 1048576) (f : st₁ ≡ with_off st (start_of o (off st) w)) (F₀ : F ≡ num st₁) (fm : FormatIs b (p + 3) (past b (p + 3) (end_of b p) 0xBA) s st₁ st₂ d d₁)
    (c : Strung b (past b (p + 3) (end_of b p) 0xBA) (end_of b p) s s₁ k st₂ st₃ d₁ d₂ i) where
  notes-are : (xs : StrParts) → Row b (f_str_parts xs rnil) (past b (p + 3) (end_of b p) 0xBA) (end_of b p) → (n : ℕ) → i ≡ k + length (string_nodes s₁ xs n k)
  notes-are xs h n =
      let m = c.is y.view y.seen xs p n h in
      m.2 ∙ ap (λ (j : ℕ). k + j) (sym (ap length m.1 ∙ length-map (strings_of y.view.top xs p n (env_of y.view b s k) (num st₂)) (λ (o : Out). o.self.node)))

  pub str-summands : Placed o st → (k ≤ i) × SumReady b s₁ F k i (o + off st₃ + w + 3) × (num st₃ + 2 * (i - k) < 2 ^ 64)
  str-summands pl =
      let h = str-parts b p e g in
      let z = str-past b p e g in
      let n = notes-are h.0 h.1 F in
      let l = past-low b (p + 3) (end_of b p) 0xBA in
      let t : off st ≤ 68719476736 = omega (arith, y.offs) in (
        omega (arith, n),
        record {
          ts = string_nodes s₁ h.0 F k;
          are = string-summands b s₁ h.0 F k (c.notes h.0 h.1);
          notes = n;
          rows = omega (arith, c.rows, y.spare, l, z, c.paid.same);
          room = omega (arith, t, few, z, y.small, fm.offs, c.wide h.0 F h.1, off-off st st₁ (start_of o (off st) w) f, start-high o (off st) w, placed-within o (off st) pl (omega (arith, t)));
        },
        omega (arith, y.nums, y.small, z, l, fm.nums, off-num st st₁ (start_of o (off st) w) f, c.paid.nums, c.rows),
      )

  pub str-did : (wide : StrWide b p w) (st₄ : State) (d₃ : List ℕ)
      → ((ts : List Node) (at : ℕ) (t : Node) → Summands b s₁ F k ts → i ≡ k + length ts → node_bytes 2 t ≡ field 0x55 [] → SumPut at t ts o w st₃ st₄ d₂ d₃)
      → (al : ℕ) → Did b p s s₁ k o st st₄ d d₃ al 0
  unfolding term
  str-did wide st₄ d₃ sum al =
      let h = str-shape b p e g in
      let l = past-low b (p + 3) (end_of b p) 0xBA in
      let u = put h.1 (format-past b (p + 3) (end_of b p) h.0 h.1 h.2.parts) in
      let n = notes-are h.1 (format-past b (p + 3) (end_of b p) h.0 h.1 h.2.parts) (num st) in
      let a = sum-state p (n_str []) (string_nodes s₁ h.1 (num st) k) o w st₃ st₄ d₂ d₃ u in
      did_of b p s s₁ k o st st₄ d d₃ al 0 y g
      (λ vw v. on-str b p (λ t. Made b p (term vw.top t (env_of vw b s k) (num st) al) o st st₄ d d₃ 0) e (is vw v))
      c.paid.kept c.paid.same
      (omega (arith, l, n, a.0, summed-count p (n_str []) (num st₃) (string_nodes s₁ h.1 (num st) k), c.paid.nums, fm.nums, n₁))
      (omega (arith, l, a.1, c.paid.errs, fm.errs, off-ers st st₁ (start_of o (off st) w) f))
    where
      n₁ : num st₁ ≡ num st
      n₁ = off-num st st₁ (start_of o (off st) w) f

      put : (xs : StrParts) → Row b (f_str_parts xs rnil) (past b (p + 3) (end_of b p) 0xBA) (end_of b p) → SumPut p (n_str []) (string_nodes s₁ xs (num st) k) o w st₃ st₄ d₂ d₃
      put xs h =
          sum (string_nodes s₁ xs (num st) k) p (n_str []) (subst (λ (j : ℕ). Summands b s₁ j k (string_nodes s₁ xs (num st) k)) (sym (F₀ ∙ n₁)) (string-summands b s₁ xs (num st) k (c.notes xs h))) (notes-are xs h (num st)) refl

      is : (vw : View) → Seen vw b s k → (G : Format) (xs : StrParts) → StrAt b p G xs → Made b p (term vw.top (t_str p G xs) (env_of vw b s k) (num st) al) o st st₄ d d₃ 0
      is vw v G xs n =
          let E = env_of vw b s k in
          let R = format-past b (p + 3) (end_of b p) G xs n.parts in
          let A = format_out vw.top G p E in
          let N = num st + size A in
          let os = strings_of vw.top xs p (num st) E N in
          let O = sum_or p (n_str []) (strings vw.top xs p (num st) E N) in
          let Q : Out = record { self = O.self; more = slot A ++ O.more; errs = A.errs ++ O.errs; tail = empty } in
          let ns = string_nodes s₁ xs (num st) k in
          let P : Put (slot A) A.errs st₁ st₂ d d₁ = format-put b p s k o w st st₁ st₂ d d₁ e y g few f fm vw v G xs n in
          let S : Put (held os) (held_errs os) st₂ st₃ d₁ d₂ × (ns ≡ nodes_of os) × (i ≡ k + length os) =
          subst (λ (j : ℕ). let us = strings_of vw.top xs p (num st) E j in Put (held us) (held_errs us) st₂ st₃ d₁ d₂ × (ns ≡ nodes_of us) × (i ≡ k + length us)) (P.nums ∙ ap (λ (j : ℕ). j + size A) n₁)
          (c.is vw v xs p (num st) R) in
          let U = put xs R in
          let L = strings-flat vw.top xs p (num st) E N in
          let M : N + length (held os) ≡ num st₃ = omega (arith, S.0.nums, P.nums, n₁) in
          let rs = (summed p (n_str []) (num st₃) ns).more in
          let X : O.more ≡ held os ++ rs = L.more ∙ ap₂ (λ (j : ℕ) (us : List Node). held os ++ (summed p (n_str []) j us).more) M (sym S.1) in
          let Y : O.self.node ≡ (summed p (n_str []) (num st₃) ns).self = ap (λ (r : Rec). r.node) L.self ∙ ap₂ (λ (j : ℕ) (us : List Node). (summed p (n_str []) j us).self) M (sym S.1) in
          let W : w ≡ length (rec_bytes 2 Q.self) = wide xs R ∙ own-str p G xs vw.top E (num st) al in
          let Z : Put (slot A ++ held os) Q.errs st₁ st₃ d d₂ =
          subst (λ (es : List Err). Put (slot A ++ held os) (A.errs ++ es) st₁ st₃ d d₂) (sym L.errs) (put_then (slot A) (held os) A.errs (held_errs os) st₁ st₂ st₃ d d₁ d₂ P S.0) in
          record {
            own = sum-own Q (slot A ++ held os) p (n_str []) ns o w st st₁ st₃ st₄ d d₂ d₃ W f Z U (ap (λ (us : List Rec). slot A ++ us) X ∙ sym (append_assoc (slot A) (held os) rs)) Y;
            tail = refl;
            wide =
                omega (
                  arith,
                  fm.offs,
                  P.offs,
                  S.0.offs,
                  c.wide xs (num st) R,
                  past-low b (p + 3) (end_of b p) 0xBA,
                  summed-size p (n_str []) (num st₃) ns,
                  bare-long 0x55,
                  ap (λ (m : Node). length (node_bytes 2 m)) Y,
                  ap (λ (us : List Rec). length (table_bytes 2 us)) X,
                  ap length (table-append (slot A) O.more),
                  length-append (table_bytes 2 (slot A)) (table_bytes 2 O.more),
                  ap length (table-append (held os) rs),
                  length-append (table_bytes 2 (held os)) (table_bytes 2 rs),
                );
          }

-- ---- the same, q being where the parts start and z where they end

pub str-first : (b : List ℕ) (p z : ℕ) → z ≡ end_of b p → get_or b p 0 ≡ 0xAF → Stands b p → (z ≤ length b) × (p + 3 < z → end_of b (p + 3) ≤ length b)
str-first b p z z₀ e g =
    let a = str-shape b p e g in
    (omega (arith, z₀, a.2.fits), λ l. row_on b (f_format a.0 (f_str_parts a.1 rnil)) (p + 3) (end_of b p) a.2.parts (omega (arith, l, z₀)))

pub str-here : (b : List ℕ) (p q z : ℕ) → q ≡ past b (p + 3) z 0xBA → z ≡ end_of b p → get_or b p 0 ≡ 0xAF → Stands b p → (z ≤ length b) × StringsHere b q z × FormatHere b (p + 3) q × (p + 3 ≤ q) × (q ≤ z)
str-here b p q z q₀ z₀ e g =
    subst (λ (z : ℕ). q ≡ past b (p + 3) z 0xBA → (z ≤ length b) × StringsHere b q z × FormatHere b (p + 3) q × (p + 3 ≤ q) × (q ≤ z)) (sym z₀)
    (λ i. subst (λ (q : ℕ). (end_of b p ≤ length b) × StringsHere b q (end_of b p) × FormatHere b (p + 3) q × (p + 3 ≤ q) × (q ≤ end_of b p)) (sym i)
    ((str-past b p e g).1, str-parts b p e g, str-format b p e g, past-low b (p + 3) (end_of b p) 0xBA, (str-past b p e g).0)) q₀

pub str-ready-at : (b : List ℕ) (p q z : ℕ) (s : List ℕ) (k o w : ℕ) (st st₁ st₂ : State) (d d₁ : List ℕ) → q ≡ past b (p + 3) z 0xBA → z ≡ end_of b p → get_or b p 0 ≡ 0xAF → Ready b s k (p + 1) (end_of b p) st → Stands b p
    → w ≤ 1048576 → st₁ ≡ with_off st (start_of o (off st) w) → FormatIs b (p + 3) q s st₁ st₂ d d₁ → Ready b s k q z st₂ × StringsHere b q z
str-ready-at b p q z s k o w st st₁ st₂ d d₁ q₀ z₀ e y g few f fm =
    subst (λ (z : ℕ). q ≡ past b (p + 3) z 0xBA → Ready b s k q z st₂ × StringsHere b q z) (sym z₀)
    (λ i. subst (λ (q : ℕ). FormatIs b (p + 3) q s st₁ st₂ d d₁ → Ready b s k q (end_of b p) st₂ × StringsHere b q (end_of b p)) (sym i)
    (λ fm. (str-ready b p s k o w st st₁ st₂ d d₁ e y g few f fm, str-parts b p e g)) fm) q₀

module _ (b : List ℕ) (p q z : ℕ) (s s₁ : List ℕ) (k o i w F : ℕ) (st st₁ st₂ st₃ : State) (d d₁ d₂ : List ℕ) (q₀ : q ≡ past b (p + 3) z 0xBA) (z₀ : z ≡ end_of b p) (e : get_or b p 0 ≡ 0xAF) (y : Ready b s k (p + 1) (end_of b p) st)
    (g : Stands b p) (few : w ≤ 1048576) (f : st₁ ≡ with_off st (start_of o (off st) w)) (F₀ : F ≡ num st₁) (fm : FormatIs b (p + 3) q s st₁ st₂ d d₁) (c : Strung b q z s s₁ k st₂ st₃ d₁ d₂ i) where
  whole : (P : Type 0) → (FormatIs b (p + 3) (past b (p + 3) (end_of b p) 0xBA) s st₁ st₂ d d₁ → Strung b (past b (p + 3) (end_of b p) 0xBA) (end_of b p) s s₁ k st₂ st₃ d₁ d₂ i → P) → P
  whole P h =
      let i₀ : q ≡ past b (p + 3) (end_of b p) 0xBA = q₀ ∙ ap (λ (z : ℕ). past b (p + 3) z 0xBA) z₀ in
      h (subst (λ (q : ℕ). FormatIs b (p + 3) q s st₁ st₂ d d₁) i₀ fm) (subst (λ (q : ℕ). Strung b q (end_of b p) s s₁ k st₂ st₃ d₁ d₂ i) i₀ (subst (λ (z : ℕ). Strung b q z s s₁ k st₂ st₃ d₁ d₂ i) z₀ c))

  pub str-summed : Placed o st → (k ≤ i) × SumReady b s₁ F k i (o + off st₃ + w + 3) × (num st₃ + 2 * (i - k) < 2 ^ 64)
  str-summed pl =
      whole ((k ≤ i) × SumReady b s₁ F k i (o + off st₃ + w + 3) × (num st₃ + 2 * (i - k) < 2 ^ 64))
      (λ fm c.
      str-summands b p s s₁ k o i w F st st₁ st₂ st₃ d d₁ d₂ e y g few f F₀ fm c pl)

  pub str-done : ((xs : StrParts) → Row b (f_str_parts xs rnil) q z → w ≡ strings_width xs) → (st₄ : State) (d₃ : List ℕ)
      → ((ts : List Node) (at : ℕ) (t : Node) → Summands b s₁ F k ts → i ≡ k + length ts → node_bytes 2 t ≡ field 0x55 [] → SumPut at t ts o w st₃ st₄ d₂ d₃)
      → (al : ℕ) → Did b p s s₁ k o st st₄ d d₃ al 0
  str-done wide st₄ d₃ sum al =
      let i₀ : q ≡ past b (p + 3) (end_of b p) 0xBA = q₀ ∙ ap (λ (z : ℕ). past b (p + 3) z 0xBA) z₀ in
      let W : StrWide b p w = subst (λ (q : ℕ). (xs : StrParts) → Row b (f_str_parts xs rnil) q (end_of b p) → w ≡ strings_width xs) i₀ (subst (λ (z : ℕ). (xs : StrParts) → Row b (f_str_parts xs rnil) q z → w ≡ strings_width xs) z₀ wide) in
      whole (Did b p s s₁ k o st st₄ d d₃ al 0) (λ fm c. str-did b p s s₁ k o i w F st st₁ st₂ st₃ d d₁ d₂ e y g few f F₀ fm c W st₄ d₃ sum al)
