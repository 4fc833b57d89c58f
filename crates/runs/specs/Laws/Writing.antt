-- The numbers of an answer written one by one at the answer's place, by what is left to write.
use Rattle.std.specs.Prelude.{ℕ, ◌+◌, ◌<◌, ◌≤◌, ◌≡◌, List, ◌∷◌, ◌++◌, length, get_or, take, drop, set}
use Rattle.std.proofs.Common.{arith, add-one, ap, ◌∙◌, sym, subst, drop_of_length-le, drop-cons}
use Rattle.lists.specs.Buffers.{WritesFrom}
use Rattle.lists.proofs.Laws.Buffers.{Unwritten, byte_fits, unwritten-byte, unwritten-from, written_from}
use Rattle.runs.specs.Handed.{answer_room}

-- i numbers of an answer stand in their places
pub record Put (numbers : List ℕ) (from : ℕ) (before : List ℕ) (i : ℕ) (now : List ℕ) : Type 0 where
  pub whole : length numbers ≡ answer_room
  pub room : from + length numbers ≤ length before
  pub within : i ≤ answer_room
  pub left : Unwritten (take from before ++ numbers) before (drop i numbers) (from + i) now

pub put-none : (numbers : List ℕ) (from : ℕ) (before : List ℕ) → length numbers ≡ answer_room → from + answer_room ≤ length before
    → Put numbers from before 0 before
put-none numbers from before e h =
    let room : from + length numbers ≤ length before = omega arith in
    record {
      whole = e;
      room = room;
      within = omega arith;
      left = subst (λ at. Unwritten (take from before ++ numbers) before numbers at before) (omega arith) (unwritten-from numbers from before room);
    }

module _ {numbers : List ℕ} {from : ℕ} {before : List ℕ} {i : ℕ} {now : List ℕ} (p : Put numbers from before i now) where
  abbrev wanted : List ℕ
  wanted = take from before ++ numbers

  module _ (h : i < answer_room) where
    here : Unwritten wanted before (get_or numbers i 0 ∷ drop (i + 1) numbers) (from + i) now
    here =
        subst (λ l. Unwritten wanted before l (from + i) now)
        (drop-cons numbers i 0 (omega (arith, p.whole)) ∙ ap (λ n. get_or numbers i 0 ∷ drop n numbers) (sym (add-one i)))
        p.left

    pub put-room : from + i < length now
    put-room = byte_fits here

    pub put_next : Put numbers from before (i + 1) (set now (from + i) (get_or numbers i 0))
    put_next =
        record {
          whole = p.whole;
          room = p.room;
          within = omega arith;
          left =
              subst (λ at. Unwritten wanted before (drop (i + 1) numbers) at (set now (from + i) (get_or numbers i 0))) (omega arith)
              (unwritten-byte here);
        }

  pub put-long : length now ≡ length before
  put-long = p.left.as_long

  pub put_all : answer_room ≤ i → WritesFrom numbers from before (from + answer_room) now
  put_all h =
      written_from numbers from before p.room
      (subst (λ l. Unwritten wanted before l (from + answer_room) now) (drop_of_length-le numbers {i = answer_room} (omega (arith, p.whole)))
      (subst (λ j. Unwritten wanted before (drop j numbers) (from + j) now) (omega (arith, p.within)) p.left))
