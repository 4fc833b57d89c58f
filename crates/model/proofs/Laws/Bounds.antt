-- How many lines and bytes an accepted text can have, and that a longer text is decided by its first part.
-- Each key has room for so many lines, each of so many bytes; a line past that room is refused wherever the text is cut behind it.
use Rattle.std.specs.Prelude.{ℕ, zero, suc, ◌+◌, ◌*◌, ◌-◌, ◌<◌, ◌≤◌, ◌≡◌, refl, Bool, true, false, length, take, eqb, leb, Option, None, Some}
use Rattle.std.proofs.Common.{mul-le-mul_right, arith, ap, ◌∙◌, sym, subst, length-append, eq-eqb, leb-true, leb-false}
use Rattle.std.proofs.lemmas.Bool.{false≢true}
use mathlib.Core.List.Memᴰ
use mathlib.Core.List.{List, [], ◌∷◌, ◌++◌, map}
use Rattle.std.proofs.Math.Seq.{take-nil, take-append-add}
use Rattle.std.proofs.lemmas.List.{take-append-le}
use Rattle.lists.specs.Lists.{◌∈◌, member}
use Rattle.lists.specs.Text.{pieces}
use Rattle.lists.proofs.Laws.Lists.{each_append}
use Rattle.lists.specs.Radix.{within}
use Rattle.lists.proofs.Laws.Count.{within-cons, total, total-length, total-sum, total-monotone, total-grows, total-member, each-length}
use Rattle.lists.proofs.Laws.Text.{by_lines, take-without}
use Rattle.lists.proofs.Laws.Decimal.{decimal-length}
use Rattle.model.specs.Files.{Form, Line, Format, numbers_of, commas, key_line, line_text, line_of, lines_of, reading, read}
use Rattle.model.specs.Refusals.{Outcome, accepted, refused}
use Rattle.model.specs.declared.Refusal.TheVariants.{Malformed}
use Rattle.model.specs.Meaning.{line_count}
use Rattle.model.specs.InForm.{LineInForm}
use Rattle.model.proofs.Laws.Lines.{text-lines, accepted-readable, text_of, Regular, body, Spelled, line-spelled, lines-line, lines-last}
use Rattle.model.specs.Causes.{passes, out-of-form}
use Rattle.model.proofs.Laws.Reading.{bad-line, bad-line-refused, reading-passing}
use Rattle.model.proofs.Laws.Passing.{Passing, passing-none, readable-passing, passing-snoc, room_of, passing-room}

-- the line with each number as large as it may be
abbrev pub widest : Form → ℕ
widest form = length (key_line form.key (map (λ b. b - 1) form.below))

commas-longest : (bs ns : List ℕ) → within bs ns ≡ true → length (commas ns) ≤ length (commas (map (λ b. b - 1) bs))
commas-longest [] [] h = omega arith
commas-longest [] (n ∷ ns) h = absurd (false≢true h)
commas-longest (b ∷ bs) [] h = absurd (false≢true h)
commas-longest (b ∷ []) (n ∷ []) h = let w = (within-cons b n [] []).0 h in decimal-length n (b - 1) (omega arith)
commas-longest (b ∷ []) (n ∷ m ∷ ns) h = absurd (false≢true ((within-cons b n [] (m ∷ ns)).0 h).1)
commas-longest (b ∷ c ∷ bs) (n ∷ []) h = absurd (false≢true ((within-cons b n (c ∷ bs) []).0 h).1)
commas-longest (b ∷ c ∷ bs) (n ∷ m ∷ ns) h =
    let w = (within-cons b n (c ∷ bs) (m ∷ ns)).0 h in
    simp length-append (omega (arith, decimal-length n (b - 1) (omega arith), commas-longest (c ∷ bs) (m ∷ ns) w.1))

module _ {K : Type 0} (f : Format K) where
  line-longest : (l : Line K) → LineInForm f l → length (line_text f.form_of l.key l.numbers) ≤ widest (f.form_of l.key)
  line-longest l h = simp length-append (omega (arith, commas-longest (f.form_of l.key).below l.numbers h.limited))

  -- the room of all keys: in lines, in bytes; and a further line of each key
  abbrev pub most_lines : ℕ
  most_lines = total (λ k. room_of (f.form_of k)) f.keys

  abbrev pub most_bytes : ℕ
  most_bytes = total (λ k. room_of (f.form_of k) * widest (f.form_of k)) f.keys

  abbrev pub enough : ℕ
  enough = total (λ k. suc (room_of (f.form_of k)) * widest (f.form_of k)) f.keys

  -- # Lines and bytes of what passes
  module _ (size : Line K → ℕ) (largest : K → ℕ) (fits : (l : Line K) → LineInForm f l → size l ≤ largest l.key) where
    abbrev taken : List (Line K) → K → ℕ
    taken ls k = length (numbers_of f.form_of k ls) * largest k

    taken_more : (l : Line K) (ls : List (Line K)) (k : K) → taken ls k ≤ taken (l ∷ ls) k
    taken_more l ls k = go (eqb (f.form_of l.key).turn (f.form_of k).turn) refl
      where
        go : (t : Bool) → eqb (f.form_of l.key).turn (f.form_of k).turn ≡ t → taken ls k ≤ taken (l ∷ ls) k
        go true e = rw e (omega arith)
        go false e = rw e (omega arith)

    taken_own : (l : Line K) (ls : List (Line K)) → taken ls l.key + largest l.key ≤ taken (l ∷ ls) l.key
    taken_own l ls = rw (eq-eqb (f.form_of l.key).turn (f.form_of l.key).turn refl) (omega arith)

    sizes-taken : (ls : List (Line K)) → ((l : Line K) → l ∈ ls → LineInForm f l) → total size ls ≤ total (taken ls) f.keys
    sizes-taken [] h = omega arith
    sizes-taken (l ∷ ls) h =
        let first = h l (Memᴰ.head refl) in
        let own = total-grows (taken ls) (taken (l ∷ ls)) (largest l.key) f.keys (λ k i. taken_more l ls k) first.listed (taken_own l ls) in
        omega (arith, fits l first, sizes-taken ls (λ m i. h m (Memᴰ.tail i)))

    passing-sizes : Regular f → (ls : List (Line K)) → Passing f ls → total size ls ≤ total (λ k. room_of (f.form_of k) * largest k) f.keys
    passing-sizes regular ls h =
        let roomy : (k : K) → k ∈ f.keys → taken ls k ≤ room_of (f.form_of k) * largest k =
        λ k i. mul-le-mul_right (largest k) (passing-room f regular k i ls h) in
        let within-room = total-monotone (taken ls) (λ k. room_of (f.form_of k) * largest k) f.keys roomy in
        omega (arith, sizes-taken ls h.in-form)

  -- lines that all pass are at most as many as there is room for
  passing-lines : Regular f → (ls : List (Line K)) → Passing f ls → length ls ≤ most_lines
  passing-lines regular ls h =
      let each-one = passing-sizes (λ l. 1) (λ k. 1) (λ l i. omega arith) regular ls h in
      let same-room = total-monotone (λ k. room_of (f.form_of k) * 1) (λ k. room_of (f.form_of k)) f.keys (λ k i. omega arith) in
      omega (arith, total-length ls)

  -- the bytes of lines that all pass are at most those of as many lines, each at its widest
  passing-bytes : Regular f → (ls : List (Line K)) → Passing f ls → length (text_of f ls) ≤ most_bytes
  passing-bytes regular ls h =
      let bytes = passing-sizes (λ l. length (line_text f.form_of l.key l.numbers)) (λ k. widest (f.form_of k)) line-longest regular ls h in
      omega (arith, each-length ls (λ l. line_text f.form_of l.key l.numbers))

  -- an accepted text has no more lines and no more bytes
  pub accepted-size : Regular f → (t : List ℕ) (ls : List (Line K)) → read f t ≡ accepted ls → (line_count t ≤ most_lines) × (length t ≤ most_bytes)
  accepted-size regular t ls h =
      let r = accepted-readable f t ls h in
      let p = readable-passing f r in
      let text = r.written.text in (
        omega (arith, ap line_count text, text-lines f regular ls r.written.in-form, passing-lines regular ls p),
        omega (arith, ap length text, passing-bytes regular ls p),
      )

-- # The first part of a text
module _ {K : Type 0} (f : Format K) (regular : Regular f) {k : K} (some_key : k ∈ f.keys) where
  abbrev spare : ℕ
  spare = total (λ j. widest (f.form_of j)) f.keys

  enough-parts : spare + most_bytes f ≤ enough f
  enough-parts =
      let lines : K → ℕ = λ j. room_of (f.form_of j) * widest (f.form_of j) in
      omega (
        arith,
        total-sum (λ j. widest (f.form_of j)) lines f.keys,
        total-monotone (λ j. widest (f.form_of j) + lines j) (λ j. suc (room_of (f.form_of j)) * widest (f.form_of j)) f.keys (λ j i. omega arith),
      )

  some-spare : 0 < spare
  some-spare =
      let some-width : 0 < widest (f.form_of k) = simp length-append (omega arith) in
      omega (arith, total-member (λ j. widest (f.form_of j)) f.keys some_key)

  -- under lines that all pass, n bytes have room for a line
  abbrev Roomy : List (Line K) → ℕ → Type 0
  Roomy above n = enough f ≤ n + length (text_of f above)

  roomy-spare : (above : List (Line K)) (n : ℕ) → Passing f above → Roomy above n → spare ≤ n
  roomy-spare above n p l = omega (arith, enough-parts, passing-bytes f regular above p)

  roomy-snoc : (above : List (Line K)) (l : Line K) (n : ℕ) → Roomy above (length (body f l) + suc n) → Roomy (above ++ (l ∷ [])) n
  roomy-snoc above l n h =
      let longer : length (text_of f (above ++ (l ∷ []))) ≡ length (text_of f above) + suc (length (body f l)) =
      ap length (each_append above (l ∷ []) (λ m. line_text f.form_of m.key m.numbers)) ∙ simp length-append (omega arith) in
      omega arith

  abbrev from : List (Line K) → List ℕ → Outcome (List (Line K))
  from above t = reading f above (lines_of f (pieces 10 t))

  -- the rest of a text, under lines that pass, is decided by its first n bytes
  abbrev Decided : List ℕ → Type 0
  Decided t = (above : List (Line K)) (n : ℕ) → Passing f above → Roomy above n → from above t ≡ from above (take n t)

  -- bytes with no byte 10 are refused, and so is a part of them
  cut-refused : (above : List (Line K)) (n : ℕ) (w : List ℕ) → member w 10 ≡ false → 0 < n → 0 < length w
      → from above (take n w) ≡ refused (Malformed (suc (length above)))
  cut-refused above zero w h l m = absurd (omega arith)
  cut-refused above (suc n) [] h l m = absurd (omega arith)
  cut-refused above (suc n) (b ∷ bs) h l m =
      ap (reading f above) (lines-last f b (take n bs) (take-without 10 (suc n) (b ∷ bs) h)) ∙ bad-line-refused f above None [] out-of-form

  decided-last : (w : List ℕ) → member w 10 ≡ false → Decided w
  decided-last [] h above n p r = rw take-nil refl
  decided-last (b ∷ bs) h above n p r =
      let some_bytes = roomy-spare above n p r in
      ap (reading f above) (lines-last f b bs h)
      ∙ bad-line-refused f above None [] out-of-form
      ∙ sym (cut-refused above n (b ∷ bs) h (omega (arith, some-spare)) (omega arith))

  -- a line cut off is out of form: one in form would fit
  decided-cut : (w rest : List ℕ) → member w 10 ≡ false → (above : List (Line K)) (n : ℕ) → spare ≤ n → n ≤ length w → (o : Option (Line K))
      → line_of f (pieces 61 w) ≡ o → reading f above (o ∷ lines_of f (pieces 10 rest)) ≡ from above (take n w)
  decided-cut w rest h above n r c None e =
      bad-line-refused f above None (lines_of f (pieces 10 rest)) out-of-form
      ∙ sym (cut-refused above n w h (omega (arith, some-spare)) (omega (arith, some-spare)))
  decided-cut w rest h above n r c (Some l) e =
      let s = line-spelled f w l e in
      let room = total-member (λ j. widest (f.form_of j)) f.keys s.1.listed in
      absurd (omega (arith, ap length s.0, length-append (body f l) (10 ∷ []), line-longest f l s.1))

  -- a whole line is read alike in both
  decided-whole : (w rest : List ℕ) → Decided rest → (above : List (Line K)) (n : ℕ) → Passing f above → Roomy above (length w + suc n) → (o : Option (Line K))
      → line_of f (pieces 61 w) ≡ o → reading f above (o ∷ lines_of f (pieces 10 rest)) ≡ reading f above (o ∷ lines_of f (pieces 10 (take n rest)))
  decided-whole w rest ih above n p r None e =
      bad-line-refused f above None (lines_of f (pieces 10 rest)) out-of-form
      ∙ sym (bad-line-refused f above None (lines_of f (pieces 10 (take n rest))) out-of-form)
  decided-whole w rest ih above n p r (Some l) e = go (passes f above l) refl
    where
      s : Spelled f w l
      s = line-spelled f w l e

      go : (t : Bool) → passes f above l ≡ t
          → reading f above (Some l ∷ lines_of f (pieces 10 rest)) ≡ reading f above (Some l ∷ lines_of f (pieces 10 (take n rest)))
      go true g =
          reading-passing f above l (lines_of f (pieces 10 rest)) g
          ∙ ih (above ++ (l ∷ [])) n (passing-snoc f above l p s.1 g) (roomy-snoc above l n (subst (λ v. Roomy above (length v + suc n)) s.0 r))
          ∙ sym (reading-passing f above l (lines_of f (pieces 10 (take n rest))) g)
      go false g =
          let bad = (bad-line f above l g).1 in
          bad-line-refused f above (Some l) (lines_of f (pieces 10 rest)) bad
          ∙ sym (bad-line-refused f above (Some l) (lines_of f (pieces 10 (take n rest))) bad)

  decided-line : (w rest : List ℕ) → member w 10 ≡ false → Decided rest → Decided (w ++ (10 ∷ rest))
  decided-line w rest h ih above n p r = go (leb n (length w)) refl
    where
      go : (t : Bool) → leb n (length w) ≡ t → from above (w ++ (10 ∷ rest)) ≡ from above (take n (w ++ (10 ∷ rest)))
      go true e =
          let c = leb-true n (length w) e in
          ap (reading f above) (lines-line f w rest h)
          ∙ decided-cut w rest h above n (roomy-spare above n p r) c (line_of f (pieces 61 w)) refl
          ∙ ap (from above) (sym (take-append-le n w (10 ∷ rest) c))
      go false e =
          let c = leb-false n (length w) e in
          let m = n - suc (length w) in
          let split : n ≡ length w + suc m = omega arith in
          let cut : take n (w ++ (10 ∷ rest)) ≡ w ++ (10 ∷ take m rest) = ap (λ i. take i (w ++ (10 ∷ rest))) split ∙ take-append-add w (10 ∷ rest) (suc m) in
          ap (reading f above) (lines-line f w rest h)
          ∙ decided-whole w rest ih above m p (subst (Roomy above) split r) (line_of f (pieces 61 w)) refl
          ∙ ap (reading f above) (sym (lines-line f w (take m rest) h))
          ∙ ap (from above) (sym cut)

  -- no more than the first `enough f` bytes of a text bear on how it is read
  pub first_part : (n : ℕ) → enough f ≤ n → (t : List ℕ) → read f t ≡ read f (take n t)
  unfolding read
  first_part n l t = by_lines 10 Decided decided-last decided-line t [] n (passing-none f) (omega arith)
