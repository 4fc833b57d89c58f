-- Reading and writing lines, for both kinds of file: which lists of lines are accepted, and that such lines and their bytes give each other.
-- A line's parts between the bytes =, comma and 10 give the line, and the line's key and numerals give the parts.
use Rattle.std.specs.Prelude.{is_some, unwrap_or, ℕ, suc, ◌≡◌, ◌↔◌, Bool, not, ◌&&◌, length, eqb, ltb, option_map, Option, None, Some}
use Rattle.std.proofs.Common.{arith, ap₂, ◌∙◌, ⊎_elim}
use Rattle.std.proofs.Math.Path.{refl, ap, sym, subst}
use Rattle.std.proofs.Math.Bool.{true, false, cond}
use Rattle.std.proofs.lemmas.Bool.{false≢true}
use mathlib.Core.List.Memᴰ
use mathlib.Core.List.{List, [], ◌∷◌, ◌++◌, map, append_assoc, append-nil}
use Rattle.lists.specs.Lists.{keep, ◌∈◌, all, member, find, each}
use Rattle.lists.specs.Order.{same, rising}
use Rattle.lists.specs.Text.{pieces}
use Rattle.lists.specs.Decimal.{decimal, value, is_digit, is_numeral}
use Rattle.lists.proofs.Laws.Lists.{keep-none, keep_append, no_member, both, not_so, all-members, any_append, in-cons, in_map}
use Rattle.lists.proofs.Laws.Order.{same-list}
use Rattle.lists.specs.Radix.{within}
use Rattle.lists.proofs.Laws.Apart.{found-member, apart, apart-find}
use Rattle.lists.proofs.Laws.Text.{join, join-pieces, join-without, pieces-join, by_lines, pieces-one, pieces-line, Parted, pieces-parted}
use Rattle.lists.proofs.Laws.Decimal.{value-decimal, decimal-value, decimal-numeral, decimal-without}
use Rattle.model.specs.Files.{Line, Format, commas, line_text, in_form, line_of, lines_of, reading, read}
use Rattle.model.specs.InForm.{LineInForm}
use Rattle.model.specs.Refusals.{accepted, refused}
use Rattle.model.specs.Meaning.{line_count}
use Rattle.model.specs.Causes.{passes, all_pass, out-of-form}
use Rattle.model.proofs.Laws.Reading.{bad-line, bad-line-refused, reading-passing, reading-through}
use Rattle.model.proofs.Laws.Outcomes.{refused-not-accepted}
use Rattle.model.specs.declared.Refusal.TheVariants.{Malformed}

-- the lines of a form are limited: by their number, or by rising
abbrev pub bounded : (most by : Option ℕ) → Bool
bounded (Some m) by = true
bounded None (Some n) = true
bounded None None = false

module _ {K : Type 0} (f : Format K) where
  -- the lines as they are written
  abbrev pub text_of : List (Line K) → List ℕ
  text_of ls = each ls (λ l. line_text f.form_of l.key l.numbers)

  -- keys are told apart by their bytes and stand in their turns; no key has a byte = or 10, and each has numbers and limited lines
  pub record Regular : Type 0 where
    pub spelled-apart : apart (λ k. (f.form_of k).key) f.keys ≡ true
    pub turns-rise : rising (map (λ k. (f.form_of k).turn ∷ []) f.keys) ≡ true
    pub plain : all (λ k. not (member (f.form_of k).key 10) && not (member (f.form_of k).key 61)) f.keys ≡ true
    pub numbered : all (λ k. ltb 0 (length (f.form_of k).below)) f.keys ≡ true
    pub limited : all (λ k. bounded (f.form_of k).most (f.form_of k).by) f.keys ≡ true

-- # Lines that pass are those that are accepted
module _ {K : Type 0} (f : Format K) where
  -- what reading accepts: lines all of which pass, each under those above it, with none missing at the end
  pub record Accepted (above : List (Line K)) (os : List (Option (Line K))) (r : List (Line K)) : Type 0 where
    pub lines : List (Line K)
    pub given : os ≡ map Some lines
    pub result : r ≡ above ++ lines
    pub pass : all_pass f above lines ≡ true
    pub complete : f.complete r ≡ true

  -- lines that all pass are read
  reading-lines : (above ls : List (Line K)) → all_pass f above ls ≡ true → f.complete (above ++ ls) ≡ true
      → reading f above (map Some ls) ≡ accepted (above ++ ls)
  unfolding reading
  reading-lines above ls h c = ap (reading f above) (sym (append-nil (map Some ls))) ∙ reading-through f above ls [] h ∙ rw c

  accepted-end : (above r : List (Line K)) → reading f above [] ≡ accepted r → Accepted above [] r
  unfolding reading
  accepted-end above r h = go (f.complete above) refl h
    where
      go : (t : Bool) → f.complete above ≡ t → cond t (accepted above) (refused (Malformed (suc (length above)))) ≡ accepted r → Accepted above [] r
      go true e g =
          let same_lines : r ≡ above = cc in
          record { lines = []; given = refl; result = same_lines ∙ sym (append-nil above); pass = refl; complete = ap f.complete same_lines ∙ e }
      go false e g = absurd (refused-not-accepted g)

  accepted-line : (above : List (Line K)) (l : Line K) (os : List (Option (Line K))) (r : List (Line K))
      → (reading f (above ++ (l ∷ [])) os ≡ accepted r → Accepted (above ++ (l ∷ [])) os r)
      → reading f above (Some l ∷ os) ≡ accepted r
      → (t : Bool) → passes f above l ≡ t → Accepted above (Some l ∷ os) r
  accepted-line above l os r more h true e =
      let a = more (sym (reading-passing f above l os e) ∙ h) in
      record {
        lines = l ∷ a.lines;
        given = ap (λ o. Some l ∷ o) a.given;
        result = a.result ∙ append_assoc above (l ∷ []) a.lines;
        pass = (both (passes f above l) (all_pass f (above ++ (l ∷ [])) a.lines)).1 (e, a.pass);
        complete = a.complete;
      }
  accepted-line above l os r more h false e = absurd (refused-not-accepted (sym (bad-line-refused f above (Some l) os (bad-line f above l e).1) ∙ h))

  reading-accepted : (above : List (Line K)) (os : List (Option (Line K))) (r : List (Line K)) → reading f above os ≡ accepted r → Accepted above os r
  reading-accepted above [] r h = accepted-end above r h
  reading-accepted above (None ∷ os) r h = absurd (refused-not-accepted (sym (bad-line-refused f above None os out-of-form) ∙ h))
  reading-accepted above (Some l ∷ os) r h = accepted-line above l os r (reading-accepted (above ++ (l ∷ [])) os r) h (passes f above l) refl

-- # From bytes to lines
commas-join : (ns : List ℕ) → commas ns ≡ join 44 (map decimal ns)
commas-join [] = refl
commas-join (n ∷ []) = refl
commas-join (n ∷ m ∷ ns) = ap (λ t. decimal n ++ (44 ∷ t)) (commas-join (m ∷ ns))

-- numerals in form are those of numbers within the limits
in-form-within : (bs : List ℕ) (ts : List (List ℕ)) → in_form bs ts ≡ true → (within bs (map value ts) ≡ true) × (map decimal (map value ts) ≡ ts)
in-form-within [] [] h = (refl, refl)
in-form-within [] (t ∷ ts) h = absurd (false≢true h)
in-form-within (b ∷ bs) [] h = absurd (false≢true h)
in-form-within (b ∷ bs) (t ∷ ts) h =
    let p = (both (is_numeral t && ltb (value t) b) (in_form bs ts)).0 h in
    let q = (both (is_numeral t) (ltb (value t) b)).0 p.0 in
    let more = in-form-within bs ts p.1 in
    ((both (ltb (value t) b) (within bs (map value ts))).1 (q.1, more.0), ap₂ ◌∷◌ (decimal-value t q.0) more.1)

within-in-form : (bs ns : List ℕ) → within bs ns ≡ true → in_form bs (map decimal ns) ≡ true
within-in-form [] [] h = refl
within-in-form [] (n ∷ ns) h = h
within-in-form (b ∷ bs) [] h = h
within-in-form (b ∷ bs) (n ∷ ns) h =
    let p = (both (ltb n b) (within bs ns)).0 h in
    rw (decimal-numeral n, value-decimal n, p.0) (within-in-form bs ns p.1)

values-back : (ns : List ℕ) → map value (map decimal ns) ≡ ns
values-back [] = refl
values-back (n ∷ ns) = ap₂ ◌∷◌ (value-decimal n) (values-back ns)

made-some : {A B : Type 0} (f : A → B) (o : Option A) {b : B} → option_map f o ≡ Some b → (a : A) × (o ≡ Some a) × (f a ≡ b)
made-some f None h = absurd (false≢true (ap is_some h))
made-some f (Some a) {b} h = (a, refl, ap (λ o. unwrap_or o b) h)

module _ {K : Type 0} (f : Format K) where
  -- a line without the byte that ends it
  abbrev pub body : Line K → List ℕ
  body l = (f.form_of l.key).key ++ (61 ∷ commas l.numbers)

  abbrev pub Spelled : List ℕ → Line K → Type 0
  Spelled w l = (w ≡ body l) × LineInForm f l

  parts-spelled : (ps : List (List ℕ)) (l : Line K) → line_of f ps ≡ Some l → Spelled (join 61 ps) l
  parts-spelled [] l h = absurd (false≢true (ap is_some h))
  parts-spelled (key ∷ []) l h = absurd (false≢true (ap is_some h))
  parts-spelled (key ∷ numbers ∷ []) l h =
      let ts = pieces 44 numbers in
      let inside : K → Bool = λ k. same (f.form_of k).key key && in_form (f.form_of k).below ts in
      let made : K → Line K = λ k. record { key = k; numbers = map value ts } in
      let m = made-some made (find inside f.keys) h in
      let k = m.0 in
      let at = found-member inside f.keys m.1 in
      let p = (both (same (f.form_of k).key key) (in_form (f.form_of k).below ts)).0 at.1 in
      let w = in-form-within (f.form_of k).below ts p.1 in
      let spelled : commas (map value ts) ≡ numbers = commas-join (map value ts) ∙ ap (join 44) w.1 ∙ join-pieces 44 numbers in
      let same_key = (same-list (f.form_of k).key key).0 p.0 in
      subst (Spelled (join 61 (key ∷ numbers ∷ []))) m.2 (
        ap₂ (λ a b. a ++ (61 ∷ b)) (sym same_key) (sym spelled),
        record { listed = at.0; limited = w.0 },
      )
  parts-spelled (key ∷ numbers ∷ more ∷ rest) l h = absurd (false≢true (ap is_some h))

  -- what is read as a line is the line as it is written, and the line is in form
  pub line-spelled : (w : List ℕ) (l : Line K) → line_of f (pieces 61 w) ≡ Some l → Spelled w l
  line-spelled w l h = subst (λ v. Spelled v l) (join-pieces 61 w) (parts-spelled (pieces 61 w) l h)

  -- a line comes off with the byte that ends it; bytes without that byte are a line out of form
  pub lines-line : (w rest : List ℕ) → member w 10 ≡ false
      → lines_of f (pieces 10 (w ++ (10 ∷ rest))) ≡ line_of f (pieces 61 w) ∷ lines_of f (pieces 10 rest)
  lines-line w rest h = ap (lines_of f) (pieces-line 10 w rest h) ∙ go (pieces-parted 10 rest)
    where
      go : Parted 10 rest → lines_of f (w ∷ pieces 10 rest) ≡ line_of f (pieces 61 w) ∷ lines_of f (pieces 10 rest)
      go p = rw p.parted

  pub lines-last : (b : ℕ) (bs : List ℕ) → member (b ∷ bs) 10 ≡ false → lines_of f (pieces 10 (b ∷ bs)) ≡ None ∷ []
  lines-last b bs h = ap (lines_of f) (pieces-one 10 (b ∷ bs) h)

  -- the lines as they are written, each in form
  pub record Written (t : List ℕ) (ls : List (Line K)) : Type 0 where
    pub text : t ≡ text_of f ls
    pub in-form : (l : Line K) → l ∈ ls → LineInForm f l

  written_last : (w : List ℕ) → member w 10 ≡ false → (ls : List (Line K)) → lines_of f (pieces 10 w) ≡ map Some ls → Written w ls
  written_last [] h [] e = record { text = refl; in-form = λ l i. absurd (Memᴰ.not-nil i) }
  written_last [] h (l ∷ ls) e = let z : ◌≡◌ {A = ℕ} 0 1 = cc in absurd (omega arith)
  written_last (b ∷ bs) h [] e = let z : ◌≡◌ {A = ℕ} 0 1 = cc (lines-last b bs h) in absurd (omega arith)
  written_last (b ∷ bs) h (l ∷ ls) e = let z : ◌≡◌ {A = ℕ} 0 1 = cc (lines-last b bs h) in absurd (omega arith)

  text-line : (w rest : List ℕ) (l : Line K) (ls : List (Line K)) → w ≡ body l → rest ≡ text_of f ls → w ++ (10 ∷ rest) ≡ text_of f (l ∷ ls)
  text-line w rest l ls e g = ap₂ (λ a b. a ++ (10 ∷ b)) e g ∙ sym (append_assoc (body l) (10 ∷ []) (text_of f ls))

  written-line : (w rest : List ℕ) → member w 10 ≡ false → ((ls : List (Line K)) → lines_of f (pieces 10 rest) ≡ map Some ls → Written rest ls)
      → (ls : List (Line K)) → lines_of f (pieces 10 (w ++ (10 ∷ rest))) ≡ map Some ls → Written (w ++ (10 ∷ rest)) ls
  written-line w rest h ih [] e = let z : ◌≡◌ {A = ℕ} 0 1 = cc (lines-line w rest h) in absurd (omega arith)
  written-line w rest h ih (l ∷ ls) e =
      let first : line_of f (pieces 61 w) ≡ Some l = cc (lines-line w rest h) in
      let later : lines_of f (pieces 10 rest) ≡ map Some ls = cc (lines-line w rest h) in
      let s = line-spelled w l first in
      let more = ih ls later in
      record {
        text = text-line w rest l ls s.0 more.text;
        in-form = λ m i. ⊎_elim (λ q. subst (LineInForm f) (sym q) s.1) (more.in-form m) (in-cons.0 i);
      }

  -- a text that is read as lines is those lines as they are written, and each is in form
  lines-written : (t : List ℕ) (ls : List (Line K)) → lines_of f (pieces 10 t) ≡ map Some ls → Written t ls
  lines-written = by_lines 10 (λ t. (ls : List (Line K)) → lines_of f (pieces 10 t) ≡ map Some ls → Written t ls) written_last written-line

  -- the text of lines in form that all pass, with none missing
  pub record Readable (t : List ℕ) (ls : List (Line K)) : Type 0 where
    pub written : Written t ls
    pub pass : all_pass f [] ls ≡ true
    pub complete : f.complete ls ≡ true

  -- an accepted text is the text of its lines
  pub accepted-readable : (t : List ℕ) (ls : List (Line K)) → read f t ≡ accepted ls → Readable t ls
  unfolding read
  accepted-readable t ls h =
      let a = reading-accepted f [] (lines_of f (pieces 10 t)) ls h in
      record {
        written = subst (Written t) (sym a.result) (lines-written t a.lines a.given);
        pass = ap (all_pass f []) a.result ∙ a.pass;
        complete = a.complete;
      }

-- # From lines to bytes
commas-without : (c : ℕ) (ns : List ℕ) → is_digit c ≡ false → eqb c 44 ≡ false → member (commas ns) c ≡ false
commas-without c ns h e =
    ap (λ t. member t c) (commas-join ns)
    ∙ join-without 44 c (map decimal ns) e (λ q i. let r = (in_map decimal ns).0 i in ap (λ t. member t c) r.2 ∙ decimal-without c r.0 h)

commas-pieces : (bs ns : List ℕ) → ltb 0 (length bs) ≡ true → within bs ns ≡ true → pieces 44 (commas ns) ≡ map decimal ns
commas-pieces [] ns h w = absurd (false≢true h)
commas-pieces (b ∷ bs) [] h w = absurd (false≢true w)
commas-pieces (b ∷ bs) (n ∷ ns) h w =
    ap (pieces 44) (commas-join (n ∷ ns))
    ∙ pieces-join 44 (decimal n) (map decimal ns)
    (λ q i. let r = (in_map decimal (n ∷ ns)).0 i in ap (λ t. member t 44) r.2 ∙ decimal-without 44 r.0 refl)

module _ {K : Type 0} (f : Format K) (regular : Regular f) where
  key-plain : (k : K) → k ∈ f.keys → (member (f.form_of k).key 10 ≡ false) × (member (f.form_of k).key 61 ≡ false)
  key-plain k i = let h = simp (all-members, both, not_so) at regular.plain in h k i

  body-ends : (l : Line K) → LineInForm f l → member (body f l) 10 ≡ false
  body-ends l h =
      any_append (eqb 10) (f.form_of l.key).key (61 ∷ commas l.numbers)
      ∙ rw ((key-plain l.key h.listed).0, commas-without 10 l.numbers refl refl)

  -- the lines, as they are written, have as many bytes 10
  pub text-lines : (ls : List (Line K)) → ((l : Line K) → l ∈ ls → LineInForm f l) → line_count (text_of f ls) ≡ length ls
  text-lines [] h = refl
  text-lines (l ∷ ls) h =
      let without = keep-none (eqb 10) (body f l) ((no_member (eqb 10) (body f l)).0 (body-ends l (h l (Memᴰ.head refl)))) in
      let rest : length (keep (eqb 10) (text_of f ls)) ≡ length ls = text-lines ls (λ m i. h m (Memᴰ.tail i)) in
      ap line_count (sym (text-line f (body f l) (text_of f ls) l ls refl refl))
      ∙ ap length (keep_append (eqb 10) (body f l) (10 ∷ text_of f ls))
      ∙ ap (λ (bs : List ℕ). length (bs ++ keep (eqb 10) (10 ∷ text_of f ls))) without
      ∙ ap suc rest

  line-of-body : (l : Line K) → LineInForm f l → line_of f (pieces 61 (body f l)) ≡ Some l
  line-of-body l h =
      let key = (f.form_of l.key).key in
      let ns = l.numbers in
      let made : List (List ℕ) → K → Line K = λ ts k. record { key = k; numbers = map value ts } in
      let inside : List (List ℕ) → K → Bool = λ ts k. same (f.form_of k).key key && in_form (f.form_of k).below ts in
      let parts : pieces 61 (body f l) ≡ key ∷ commas ns ∷ [] =
      pieces-line 61 key (commas ns) (key-plain l.key h.listed).1 ∙ ap (λ ps. key ∷ ps) (pieces-one 61 (commas ns) (commas-without 61 ns refl refl)) in
      let numbered = (all-members (λ k. ltb 0 (length (f.form_of k).below)) f.keys).0 regular.numbered l.key h.listed in
      let numerals = commas-pieces (f.form_of l.key).below ns numbered h.limited in
      let there = apart-find (λ k. (f.form_of k).key) (λ k. in_form (f.form_of k).below (map decimal ns)) f.keys regular.spelled-apart h.listed
      (within-in-form (f.form_of l.key).below ns h.limited) in
      ap (line_of f) parts
      ∙ ap (λ ts. option_map (made ts) (find (inside ts) f.keys)) numerals
      ∙ ap (option_map (made (map decimal ns))) there
      ∙ ap (λ (ms : List ℕ). Some record { key = l.key; numbers = ms }) (values-back ns)

  -- lines in form, as they are written, are read as those lines
  lines-read : (ls : List (Line K)) → ((l : Line K) → l ∈ ls → LineInForm f l) → lines_of f (pieces 10 (text_of f ls)) ≡ map Some ls
  lines-read [] h = refl
  lines-read (l ∷ ls) h =
      let first = h l (Memᴰ.head refl) in
      ap (λ t. lines_of f (pieces 10 t)) (append_assoc (body f l) (10 ∷ []) (text_of f ls))
      ∙ lines-line f (body f l) (text_of f ls) (body-ends l first)
      ∙ ap₂ ◌∷◌ (line-of-body l first) (lines-read ls (λ m i. h m (Memᴰ.tail i)))

  -- the texts that are accepted, and the lines that each is accepted as
  pub read-iff : (t : List ℕ) (ls : List (Line K)) → (read f t ≡ accepted ls) ↔ Readable f t ls
  unfolding read
  read-iff t ls = (
    accepted-readable f t ls,
    λ r.
        ap (λ u. reading f [] (lines_of f (pieces 10 u))) r.written.text
        ∙ ap (reading f []) (lines-read ls r.written.in-form)
        ∙ reading-lines f [] ls r.pass r.complete,
  )
