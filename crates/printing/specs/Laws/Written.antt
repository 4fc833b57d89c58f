-- A line as it is written: its key, a byte =, and its numbers, each with what ends it.
-- By what is left: the bytes of the numbers from i on are what is left of the bytes of all.
use Rattle.std.specs.Prelude.{ℕ, suc, ◌+◌, ◌*◌, ◌-◌, ◌^◌, ◌<◌, ◌≤◌, ◌≡◌, refl, List, [], ◌∷◌, ◌++◌, get_or, take, drop, set, sum_by}
use native.Mathlib.Omega.{arith}
use Rattle.std.proofs.Math.Numerals.{add-one}
use Rattle.std.proofs.Math.Path.{ap}
use Rattle.std.proofs.Common.{◌∙◌, sym, subst, append_assoc, length-set, drop_of_length-le, length-take-le, drop-cons, eq-eqb, ne_eqb}
use Rattle.std.proofs.Math.ListN.{length, length-append, length-drop}
use Rattle.std.proofs.Math.Seq.{take-append_seam}
use borrow.Author.Rules.{part_to_end}
use Rattle.std.proofs.lemmas.List.Sums.{sum_by-cons, sum_by-le}
use Rattle.std.proofs.lemmas.Grind.{get_or_default_zero}
use Rattle.lists.specs.Decimal.{decimal, most_digits}
use Rattle.lists.proofs.Laws.Decimal.{word-length}
use Rattle.lists.specs.Radix.{unrank, lowest}
use Rattle.lists.specs.Buffers.{Writes}
use Rattle.lists.proofs.Laws.Radix.{unrank-length}
use Rattle.lists.proofs.Laws.Buffers.{Unwritten, unwritten-all, part-fits, byte_fits, unwritten-part, unwritten-byte, unwritten-front, unwritten-none}
use Rattle.lists.proofs.Laws.Buffers.{last_written, writes-as-long}
use Rattle.model.specs.Files.{commas}
use Rattle.forms.specs.Forms.{kind_of, most_numbers, padded, packed_form}
use Rattle.printing.specs.Written.{most_of_numbers, ender, numbers_text, line_of, row_text}
use Rattle.forms.specs.Laws.Kinds.{kind-roomy, kind-spelled, kind-written, filled, padded-front, form-numbers, form-few}
use Rattle.forms.specs.declared.Form.{Form as PackedForm}
use Rattle.forms.specs.declared.LineKind.{LineKind}

-- # A line's numbers
pub ender-last : (left : ℕ) → left ≡ 0 → 10 ≡ ender left
unfolding ender
ender-last left e = rw (eq-eqb left 0 e)

pub ender-other : (left : ℕ) → (left ≡ 0 → ⊥) → 44 ≡ ender left
unfolding ender
ender-other left e = rw (ne_eqb left 0 e)

module _ (numbers : List ℕ) where
  -- the bytes of those that are left when i are done
  abbrev left_text : ℕ → List ℕ
  left_text i = numbers_text (drop i numbers)

  -- the next number, what ends it, and the others
  number-next : (i : ℕ) → i < length numbers
      → left_text i ≡ decimal (get_or numbers i 0) ++ (ender (length numbers - (i + 1)) ∷ left_text (i + 1))
  unfolding numbers_text
  number-next i h =
      let left : length (drop (suc i) numbers) ≡ length numbers - (i + 1) = length-drop (suc i) numbers ∙ omega arith in
      ap numbers_text (drop-cons numbers i 0 h) ∙ rw (left, add-one i)

  number-none : (i : ℕ) → length numbers ≤ i → left_text i ≡ []
  unfolding numbers_text
  number-none i h = ap numbers_text (drop_of_length-le numbers {i = i} h)

-- # How long they are
pub record Counting (numbers : List ℕ) (bytes i : ℕ) : Type 0 where
  pub few : length numbers ≤ most_numbers
  pub reached : i ≤ length numbers
  pub small : bytes ≤ (most_digits + 1) * i
  pub left : bytes + length (left_text numbers i) ≡ length (numbers_text numbers)

module _ {numbers : List ℕ} where
  pub counting-none : length numbers ≤ most_numbers → Counting numbers 0 0
  counting-none few = record { few = few; reached = omega arith; small = omega arith; left = omega arith }

  module _ {bytes i : ℕ} (c : Counting numbers bytes i) where
    pub counting-next : i < length numbers → {r : ℕ} → (r ≡ length (decimal (get_or numbers i 0))) × (r ≤ most_digits)
        → Counting numbers (bytes + (r + 1)) (i + 1)
    counting-next h digits =
        let x = decimal (get_or numbers i 0) in
        let rest = ender (length numbers - (i + 1)) ∷ left_text numbers (i + 1) in
        record {
          few = c.few;
          reached = omega arith;
          small = omega (arith, c.small, digits.1);
          left = omega (arith, c.left, ap length (number-next numbers i h), length-append x rest, digits.0);
        }

    pub counting-all : length numbers ≤ i → (bytes ≡ length (numbers_text numbers)) × (bytes ≤ most_of_numbers)
    counting-all h = (
      omega (arith, c.left, ap length (number-none numbers i h)),
      omega (arith, c.small, c.few, c.reached),
    )

-- as a sum over the numbers
pub numbers-counted : (ns : List ℕ) → sum_by (λ n. length (decimal n) + 1) ns ≡ length (numbers_text ns)
unfolding numbers_text
numbers-counted [] = refl
numbers-counted (n ∷ ns) =
    sum_by-cons (λ m. length (decimal m) + 1) n ns ∙ omega (arith, numbers-counted ns, length-append (decimal n) (ender (length ns) ∷ numbers_text ns))

pub numbers-short : (ns : List ℕ) → length ns ≤ most_numbers → ((i : ℕ) → get_or ns i 0 < 2 ^ 64)
    → sum_by (λ n. length (decimal n) + 1) ns ≤ most_of_numbers
numbers-short ns few words =
    let each = sum_by-le (λ n. length (decimal n) + 1) (most_digits + 1) ns
    (λ k d l. rw (get_or_default_zero ns k d l) (let short = word-length (get_or ns k 0) (words k) in omega arith)) in
    omega (arith, each, few)

-- # Writing them
pub record Printing (numbers before : List ℕ) (at i : ℕ) (now : List ℕ) : Type 0 where
  pub left : Unwritten (numbers_text numbers) before (left_text numbers i) at now

module _ (numbers before : List ℕ) where
  pub printing-none : length (numbers_text numbers) ≤ length before → Printing numbers before 0 0 before
  printing-none fits = record { left = unwritten-all fits }

module _ {numbers before : List ℕ} {at i : ℕ} {now : List ℕ} (p : Printing numbers before at i now) where
  abbrev whole : List ℕ
  whole = numbers_text numbers

  module _ (h : i < length numbers) where
    abbrev number : List ℕ
    number = decimal (get_or numbers i 0)

    abbrev rest : List ℕ
    rest = ender (length numbers - (i + 1)) ∷ left_text numbers (i + 1)

    here : Unwritten whole before (number ++ rest) at now
    here = subst (λ t. Unwritten whole before t at now) (number-next numbers i h) p.left

    pub number_fits : length number ≤ length (take (length now - at) (drop at now))
    number_fits = part-fits number rest here

    module _ {taken : ℕ} {after : List ℕ} (w : Writes number (take (length now - at) (drop at now)) taken after) where
      abbrev later : List ℕ
      later = take at now ++ (after ++ drop (length now - at) (drop at now))

      number-written : Unwritten whole before rest (at + taken) later
      number-written = unwritten-part number rest here w

      pub end_fits : at + taken < length later
      end_fits = byte_fits number-written

      pub end-room : length before < 2 ^ 64 → at + taken + 1 < 2 ^ 64
      end-room l = omega (arith, end_fits, number-written.as_long)

      pub end-small : length before < 2 ^ 64 → at + taken < 2 ^ 64
      end-small l = omega (arith, end-room l)

      pub printing-next : {end : ℕ} → end ≡ ender (length numbers - (i + 1))
          → Printing numbers before (at + taken + 1) (i + 1) (set later (at + taken) end)
      printing-next e =
          subst (λ b. Printing numbers before (at + taken + 1) (i + 1) (set later (at + taken) b)) (sym e)
          (record { left = unwritten-byte number-written })

  pub printing-all : length numbers ≤ i → Writes whole before at now
  printing-all h = unwritten-none (subst (λ t. Unwritten whole before t at now) (number-none numbers i h) p.left)

-- # A line
numbers-text : (n : ℕ) (ns : List ℕ) → numbers_text (n ∷ ns) ≡ commas (n ∷ ns) ++ (10 ∷ [])
unfolding numbers_text
numbers-text n [] = ap (λ b. decimal n ++ (b ∷ [])) (sym (ender-last 0 refl))
numbers-text n (m ∷ ns) =
    rw (sym (ender-other (length (m ∷ ns)) (λ e. absurd (omega arith))), numbers-text m ns)
    (sym (append_assoc (decimal n) (44 ∷ commas (m ∷ ns)) (10 ∷ [])))

line-text : (key ns : List ℕ) → 1 ≤ length ns → line_of key ns ≡ key ++ (61 ∷ numbers_text ns)
unfolding line_of
line-text key [] h = absurd (omega arith)
line-text key (n ∷ ns) h = rw (numbers-text n ns) (append_assoc key (61 ∷ commas (n ∷ ns)) (10 ∷ []))

module _ (key ns before : List ℕ) (some : 1 ≤ length ns) (fits : length (line_of key ns) ≤ length before) where
  abbrev ending : List ℕ
  ending = numbers_text ns

  pub key_fits : length key ≤ length before
  key_fits = omega (arith, ap length (line-text key ns some), length-append key (61 ∷ ending))

  module _ {at : ℕ} {now : List ℕ} (w : Writes key before at now) where
    key-written : Unwritten (line_of key ns) before (61 ∷ ending) at now
    key-written = unwritten-front key (61 ∷ ending) (line-text key ns some) fits w

    pub equals-fits : at < length now
    equals-fits = byte_fits key-written

    -- whatever byte follows the key
    module _ (byte : ℕ) where
      pub numbers-start : at + 1 ≤ length (set now at byte)
      numbers-start = omega (arith, equals-fits, length-set now at byte)

      pub numbers_fit : length ending ≤ length (take (length (set now at byte) - (at + 1)) (drop (at + 1) (set now at byte)))
      numbers_fit =
          let u = key-written in
          rw (part_to_end (set now at byte) (at + 1))
          (omega (arith, length-drop (at + 1) (set now at byte), length-set now at byte, u.reached, u.fits, u.as_long))

    abbrev behind : List ℕ
    behind = drop (at + 1) (set now at 61)

    abbrev left : ℕ
    left = length (set now at 61) - (at + 1)

    abbrev lined : List ℕ → List ℕ
    lined after = take (at + 1) (set now at 61) ++ (after ++ drop left behind)

    module _ {taken : ℕ} {after : List ℕ} (v : Writes ending (take left behind) taken after) where
      pub line-written : Writes (line_of key ns) before (at + 1 + taken) (lined after)
      line-written = last_written ending (unwritten-byte key-written) v

      pub line-as-long : length (lined after) ≡ length before
      line-as-long = writes-as-long (line_of key ns) before fits line-written

-- # The line of a row
module _ (kind : LineKind) (row : ℕ) {form : PackedForm} (made : form ≡ packed_form (kind_of kind)) {numbers : List ℕ}
    (got : numbers ≡ padded (unrank (kind_of kind).rooms row)) where
  abbrev row_key : List ℕ
  row_key = (kind_of kind).form.key

  abbrev us : List ℕ
  us = unrank (kind_of kind).rooms row

  -- the array's numbers are the row's
  row-numbers : take form.numbers numbers ≡ us
  row-numbers =
      let k = kind-roomy kind in
      let as_many : form.numbers ≡ length us = form-numbers kind made ∙ sym (unrank-length (kind_of kind).rooms row) in
      rw (got, as_many) (padded-front us (omega (arith, unrank-length (kind_of kind).rooms row, k.as_many, k.few)))

  row-some : 1 ≤ length us
  row-some = let k = kind-roomy kind in omega (arith, unrank-length (kind_of kind).rooms row, k.as_many, k.some_number)

  letters : form.letters ≡ length row_key
  unfolding packed_form
  letters = ap (λ f. f.letters) made

  pub letters-few : form.letters ≤ 5
  letters-few = omega (arith, letters, (kind-spelled kind).1)

  module _ (space : List ℕ) (room : length space ≡ 5) where
    pub key-inside : form.letters ≤ length space
    key-inside = omega (arith, letters-few)

    pub key-part : form.letters ≡ length (take form.letters space)
    key-part = sym (length-take-le form.letters space key-inside)

  pub letters-room : form.letters + 1 < 2 ^ 64
  letters-room = omega (arith, letters-few)

  pub numbers-inside : form.numbers ≤ length numbers
  numbers-inside =
      let k = kind-roomy kind in
      let as_many = unrank-length (kind_of kind).rooms row in
      let all = ap length (got ∙ sym (filled us (omega (arith, as_many, k.as_many, k.few)))) in
      omega (arith, form-numbers kind made, as_many, all, length-append us (drop (length us) (0 ∷ 0 ∷ 0 ∷ 0 ∷ [])))

  pub numbers-part : form.numbers ≡ length (take form.numbers numbers)
  numbers-part = form-numbers kind made ∙ sym (ap length row-numbers ∙ unrank-length (kind_of kind).rooms row)

  pub numbers-few : length (take form.numbers numbers) ≤ most_numbers
  numbers-few = omega (arith, numbers-part, form-few kind made)

  pub row-counted : {r : ℕ} → (r ≡ length (numbers_text (take form.numbers numbers))) × (r ≤ most_of_numbers)
      → form.letters + 1 + r ≡ length (row_text kind row)
  unfolding row_text line_of
  row-counted c =
      let bytes = ap length (line-text row_key us row-some) ∙ length-append row_key (61 ∷ numbers_text us) in
      let ending = ap (λ ns. length (numbers_text ns)) row-numbers in
      omega (arith, letters, c.0)

  -- its key, spelled into an array
  module _ {space : List ℕ} {taken : ℕ} {spelled : List ℕ} (w : Writes (lowest 256 0 form.letters form.key) space taken spelled) where
    key-digits : lowest 256 0 form.letters form.key ≡ row_key
    unfolding packed_form
    key-digits = ap (λ f. lowest 256 0 f.letters f.key) made ∙ kind-written kind

    spelled-key : take form.letters spelled ≡ row_key
    spelled-key = rw (w.buffer, key-digits, letters) (take-append_seam row_key (drop (length row_key) space))

    row_line_lem : line_of (take form.letters spelled) (take form.numbers numbers) ≡ row_text kind row
    unfolding row_text line_of
    row_line_lem = rw (spelled-key, row-numbers)

    pub line-some : 1 ≤ length (take form.numbers numbers)
    line-some = rw row-numbers row-some

    module _ (before : List ℕ) where
      pub line-fits : length (row_text kind row) ≤ length before
          → length (line_of (take form.letters spelled) (take form.numbers numbers)) ≤ length before
      line-fits l = rw row_line_lem l

      pub row_written : {r : ℕ} {after : List ℕ} → Writes (line_of (take form.letters spelled) (take form.numbers numbers)) before r after
          → Writes (row_text kind row) before r after
      row_written {r} {after} v = subst (λ t. Writes t before r after) row_line_lem v
