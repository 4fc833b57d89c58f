-- A text that is written part by part, each part where the last one ended, stands at the front of the buffer when nothing of it is left to write.
-- By what is left: the bytes that are written, then what is left, then the rest of the buffer are what the buffer shall hold.
use Rattle.std.specs.Prelude.{ℕ, suc, ◌+◌, ◌-◌, ◌<◌, ◌≤◌, ◌≡◌, refl, List, [], ◌∷◌, ◌++◌, length, take, drop, set}
use Rattle.std.proofs.Common.{arith, add-one, ap, ◌∙◌, sym, subst, append_assoc, append-nil, length-append, length-drop, drop_of_length-le, take-append-drop, length-take-le, take_at, drop_at, drop-drop}
use Rattle.std.proofs.lemmas.List.{set_split}
use borrow.Author.Rules.{part_to_end}
use Rattle.lists.specs.Buffers.{at_front, Writes, WritesFrom}

-- the buffer stays as long as it was
pub writes-as-long : (text before : List ℕ) {taken : ℕ} {after : List ℕ} → length text ≤ length before → Writes text before taken after
    → length after ≡ length before
writes-as-long text before h w =
    ap length w.buffer ∙ length-append text (drop (length text) before) ∙ omega (arith, length-drop (length text) before)

-- what is left to write, from `at` on, of a whole text that goes to the front of a buffer
pub record Unwritten (whole before left : List ℕ) (at : ℕ) (now : List ℕ) : Type 0 where
  pub reached : at + length left ≡ length whole
  pub fits : length whole ≤ length before
  pub as_long : length now ≡ length before
  pub leaves : take at now ++ at_front left (drop at now) ≡ at_front whole before

module _ {whole before : List ℕ} where
  pub unwritten-all : length whole ≤ length before → Unwritten whole before whole 0 before
  unwritten-all h = record { reached = omega arith; fits = h; as_long = refl; leaves = refl }

  module _ {at : ℕ} {now : List ℕ} where
    inside : {left : List ℕ} → Unwritten whole before left at now → at + length left ≤ length now
    inside u = omega (arith, u.reached, u.fits, u.as_long)

    -- a part is written
    pub written_on : (part left : List ℕ) → Unwritten whole before (part ++ left) at now → {next : ℕ} {new : List ℕ}
        → WritesFrom part at now next new → Unwritten whole before left next new
    written_on part left u {next} {new} w =
        let e = w.ends in
        let f = w.buffer in
        let both = length-append part left in
        let front = take at now ++ part in
        let behind = drop (length part) (drop at now) in
        let at-end : length (take at now) ≡ at = length-take-le at now (omega (arith, inside u)) in
        let so-long : length front ≡ next = length-append (take at now) part ∙ omega (arith, at-end, e) in
        let split : new ≡ front ++ behind = f ∙ sym (append_assoc (take at now) part behind) in
        let later : drop (length left) behind ≡ drop (length (part ++ left)) (drop at now) =
        drop-drop (length left) (length part) (drop at now) ∙ ap (λ n. drop n (drop at now)) (sym both) in
        record {
          reached = omega (arith, u.reached, both, e);
          fits = u.fits;
          as_long =
              ap length split ∙ length-append front behind
              ∙ omega (arith, so-long, e, length-drop (length part) (drop at now), length-drop at now, inside u, both, u.as_long);
          leaves =
              rw (split, take_at front behind next so-long, drop_at front behind next so-long, later)
              (append_assoc (take at now) part (left ++ drop (length (part ++ left)) (drop at now))
              ∙ ap (λ l. take at now ++ l) (sym (append_assoc part left (drop (length (part ++ left)) (drop at now))))
              ∙ u.leaves);
        }

    module _ (part left : List ℕ) (u : Unwritten whole before (part ++ left) at now) where
      pub part-inside : at + length part ≤ length now
      part-inside = omega (arith, inside u, length-append part left)

      -- it fits into the part of the buffer from `at` on
      pub part-fits : length part ≤ length (take (length now - at) (drop at now))
      part-fits = rw (part_to_end now at) (omega (arith, length-drop at now, inside u, length-append part left))

      pub unwritten-part : {taken : ℕ} {after : List ℕ} → Writes part (take (length now - at) (drop at now)) taken after
          → Unwritten whole before left (at + taken) (take at now ++ (after ++ drop (length now - at) (drop at now)))
      unwritten-part {taken} {after} w =
          let nothing : drop (length now - at) (drop at now) ≡ [] =
          drop_of_length-le (drop at now) {i = length now - at} (omega (arith, length-drop at now)) in
          written_on part left u (record {
            ends = omega (arith, w.count);
            buffer =
                ap (λ l. take at now ++ l) (ap (λ l. after ++ l) nothing ∙ append-nil after ∙ w.buffer ∙ ap (at_front part) (part_to_end now at));
          })

    module _ {byte : ℕ} {left : List ℕ} (u : Unwritten whole before (byte ∷ left) at now) where
      pub byte_fits : at < length now
      byte_fits = omega (arith, inside u)

      pub unwritten-byte : Unwritten whole before left (at + 1) (set now at byte)
      unwritten-byte =
          let dropped : drop (suc at) now ≡ drop 1 (drop at now) = ap (λ n. drop n now) (sym (add-one at)) ∙ sym (drop-drop 1 at now) in
          written_on (byte ∷ []) left u (record {
            ends = refl;
            buffer = set_split now at byte byte_fits ∙ ap (λ l. take at now ++ byte ∷ l) dropped;
          })

  -- the first part is written into the whole buffer
  pub unwritten-front : (part left : List ℕ) → whole ≡ part ++ left → length whole ≤ length before
      → {taken : ℕ} {after : List ℕ} → Writes part before taken after → Unwritten whole before left taken after
  unwritten-front part left e h {taken} {after} w =
      written_on part left (subst (λ t. Unwritten whole before t 0 before) e (unwritten-all h))
      (record { ends = omega (arith, w.count); buffer = w.buffer })

  -- nothing is left
  pub unwritten-none : {at : ℕ} {now : List ℕ} → Unwritten whole before [] at now → Writes whole before at now
  unwritten-none {at} {now} u = record { count = omega (arith, u.reached); buffer = sym (take-append-drop at now) ∙ u.leaves }

  -- the last part is written
  module _ {at : ℕ} {now : List ℕ} (last : List ℕ) (u : Unwritten whole before last at now) where
    then-nothing : Unwritten whole before (last ++ []) at now
    then-nothing = subst (λ t. Unwritten whole before t at now) (sym (append-nil last)) u

    pub last_fits : length last ≤ length (take (length now - at) (drop at now))
    last_fits = part-fits last [] then-nothing

    pub last_written : {taken : ℕ} {after : List ℕ} → Writes last (take (length now - at) (drop at now)) taken after
        → Writes whole before (at + taken) (take at now ++ (after ++ drop (length now - at) (drop at now)))
    last_written w = unwritten-none (unwritten-part last [] then-nothing w)

-- # From a place on
-- what stands before the place, and then the text, are at the front
module _ (text : List ℕ) (from : ℕ) (before : List ℕ) (h : from + length text ≤ length before) where
  abbrev stood : List ℕ
  stood = take from before

  stood-long : length stood ≡ from
  stood-long = length-take-le from before (omega arith)

  front-from : stood ++ at_front text (drop from before) ≡ at_front (stood ++ text) before
  front-from =
      let both : length (stood ++ text) ≡ from + length text = length-append stood text ∙ omega (arith, stood-long) in
      let behind : drop (length text) (drop from before) ≡ drop (length (stood ++ text)) before =
      drop-drop (length text) from before ∙ ap (λ n. drop n before) (sym both) in
      sym (append_assoc stood text (drop (length text) (drop from before))) ∙ ap (λ l. (stood ++ text) ++ l) behind

  pub unwritten-from : Unwritten (stood ++ text) before text from before
  unwritten-from =
      record {
        reached = sym (length-append stood text ∙ omega (arith, stood-long));
        fits = omega (arith, length-append stood text, stood-long);
        as_long = refl;
        leaves = front-from;
      }

  pub written_from : {at : ℕ} {now : List ℕ} → Unwritten (stood ++ text) before [] at now → WritesFrom text from before at now
  written_from u =
      let w = unwritten-none u in
      record { ends = w.count ∙ length-append stood text ∙ omega (arith, stood-long); buffer = w.buffer ∙ sym front-from }
