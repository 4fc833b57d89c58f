-- Notes while a key is noted. The keys as they rise tell whether the key is noted already: joining it makes them one more exactly if not.
use Rattle.std.specs.Prelude.{ℕ, suc, ◌<◌, ◌≤◌, ◌≡◌, refl, Bool, true, false, List, [], ◌∷◌, ◌++◌, length, take, set}
use Rattle.std.proofs.Common.{arith, ap, sym, ◌∙◌, length-set, length-take-le, take-suc-set}
use Rattle.lists.specs.Lists.{member}
use Rattle.keys.specs.Keys.{keys_rise, join_key, Front}
use Rattle.keys.specs.Laws.Keys.{join-there}
use Rattle.notes.specs.Notes.{most, note, sorted}
use Rattle.notes.specs.Kept.{noted, Kept}
use Rattle.notes.specs.Laws.Noting.{join_more, sorted_rises, sorted-member, sorted-snoc, note-first, note-again, note-past}
use Rattle.notes.specs.declared.Notes.TheInside.{Inside}

module _ {n : Inside} (kept : Kept n) where
  pub rising-rises : keys_rise (take n.count n.rising) ≡ true
  rising-rises = rw kept.order (sorted_rises (noted n))

  pub rising-fits : n.count < most → n.count < length n.rising
  rising-fits l = omega (arith, kept.rising_room)

  pub noted-length : length (noted n) ≡ n.count
  noted-length = length-take-le n.count n.coming (omega (arith, kept.coming_room, kept.few))

  pub noted-full : (key : ℕ) → most ≤ n.count → noted n ≡ note (noted n) key
  noted-full key l = sym (note-past (noted n) key (rw noted-length l))

  -- when the key has been joined to the keys as they rise
  module _ (key : ℕ) {more : ℕ} {after : List ℕ} (l : n.count < most) (joined : Front after more (join_key key (take n.count n.rising))) where
    joined-keys : take more after ≡ join_key key (sorted (noted n))
    joined-keys = joined.front ∙ ap (join_key key) kept.order

    many : length (join_key key (sorted (noted n))) ≡ more
    many = ap length (sym joined-keys) ∙ length-take-le more after joined.few

    many-sorted : length (sorted (noted n)) ≡ n.count
    many-sorted = ap length (sym kept.order) ∙ length-take-le n.count n.rising (omega (arith, kept.rising_room))

    standing : true ≡ member (sorted (noted n)) key → sorted (noted n) ≡ join_key key (sorted (noted n))
    standing = join-there (sorted (noted n)) key (sorted_rises (noted n))

    module _ (same : more ≡ n.count) where
      there : member (sorted (noted n)) key ≡ true
      there = go (member (sorted (noted n)) key) refl
        where
          go : (t : Bool) → member (sorted (noted n)) key ≡ t → t ≡ true
          go true h = refl
          go false h = absurd (omega (arith, join_more key (sorted (noted n)) h, many, many-sorted))

      pub again : noted n ≡ note (noted n) key
      again = sym (note-again (noted n) key (sym (sorted-member (noted n) key) ∙ there))

      pub kept-again : length after ≡ most → Kept (record { count = n.count; coming = n.coming; rising = after })
      kept-again room = record {
        coming_room = kept.coming_room;
        rising_room = room;
        few = kept.few;
        order = ap (λ i. take i after) (sym same) ∙ joined-keys ∙ sym (standing (sym there));
      }

    module _ (other : more ≡ n.count → ⊥) where
      apart : member (sorted (noted n)) key ≡ false
      apart = go (member (sorted (noted n)) key) refl
        where
          go : (t : Bool) → member (sorted (noted n)) key ≡ t → t ≡ false
          go true h = absurd (other (sym many ∙ ap length (sym (standing (sym h))) ∙ many-sorted))
          go false h = refl

      one_more : more ≡ suc n.count
      one_more = omega (arith, join_more key (sorted (noted n)) apart, many, many-sorted)

      with-key : take more (set n.coming n.count key) ≡ noted n ++ (key ∷ [])
      with-key = rw one_more (take-suc-set n.coming n.count key (omega (arith, kept.coming_room)))

      pub new : take more (set n.coming n.count key) ≡ note (noted n) key
      new = with-key ∙ sym (note-first (noted n) key (rw noted-length l) (sym (sorted-member (noted n) key) ∙ apart))

      pub kept-new : length after ≡ most → Kept (record { count = more; coming = set n.coming n.count key; rising = after })
      kept-new room = record {
        coming_room = length-set n.coming n.count key ∙ kept.coming_room;
        rising_room = room;
        few = omega (arith, one_more);
        order = joined-keys ∙ sym (sorted-snoc (noted n) key) ∙ ap sorted (sym with-key);
      }
