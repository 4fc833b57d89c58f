-- The kind of a line sought among kinds one after another, by those that are left.
use Rattle.std.specs.Prelude.{ℕ, ◌+◌, ◌-◌, ◌≤◌, ◌≡◌, refl, List, ◌∷◌, length, take, drop}
use Rattle.std.proofs.Common.{◌∙◌, ne_eqb}
use Rattle.numerals.specs.Scan.{up_to}
use Rattle.forms.specs.Forms.{kind_of, key_number, packed_form}
use Rattle.forms.specs.Laws.KeyNumbers.{Bytes}
use Rattle.forms.specs.declared.Form.{Form as PackedForm}
use Rattle.forms.specs.declared.LineKind.{LineKind}
use Rattle.text.specs.Lines.{kind_with}
use Rattle.text.specs.Laws.Parsing.{Parted, parted}

-- the text is a word and numbers, and the kinds that are not left don't have the word's key
pub record Sought (s : List ℕ) (kinds : List LineKind) (key : ℕ) (numbers : List ℕ) (left : List LineKind) : Type 0 where
  pub word : List ℕ
  pub parts : Parted s word numbers
  pub keyed : key ≡ key_number word
  pub rest : kind_with key kinds ≡ kind_with key left

pub sought-next : {s numbers : List ℕ} {kinds left : List LineKind} {key : ℕ} {kind : LineKind} → Sought s kinds key numbers (kind ∷ left)
    → {form : PackedForm} → form ≡ packed_form (kind_of kind) → (form.key ≡ key → ⊥) → Sought s kinds key numbers left
sought-next {key = key} r {form} packed d =
    record { word = r.word; parts = r.parts; keyed = r.keyed; rest = r.rest ∙ rw (← packed, ne_eqb form.key key d) }

-- none has been looked at
pub sought-none : (s : List ℕ) {n : ℕ} → n ≡ up_to 61 s → (n ≡ length s → ⊥) → {u : ℕ} → u ≡ up_to 61 (take (length s - (n + 1)) (drop (n + 1) s))
    → (kinds : List LineKind) → Bytes s → length (take (length s - (n + 1)) (drop (n + 1) s)) ≤ u → {key : ℕ} → key ≡ key_number (take n s)
    → Sought s kinds key (take (length s - (n + 1)) (drop (n + 1) s)) kinds
sought-none s {n} found inside again kinds b l e =
    record { word = take n s; parts = parted s found inside again b l; keyed = e; rest = refl }
