-- Whether there is room for a new node, limit by limit; and edges put into an array one by one, from the start to the end.
use Rattle.std.specs.Prelude.{ℕ, ◌+◌, ◌*◌, ◌^◌, ◌<◌, ◌≤◌, ◌≡◌, take, Ok, Err}
use Rattle.std.proofs.Common.{zero-le, arith}
use mathlib.Core.List.{List, ◌++◌, map}
use Rattle.std.proofs.Math.ListN.{length, length-map}
use Rattle.std.proofs.Math.Seq.{take-length, paste-zero}
use Rattle.std.proofs.lemmas.List.Edits.{length-paste, take-paste}
use borrow.Author.Tests.{lt-ltb, le-ltb, le-leb, lt-leb}
use Rattle.model.specs.Limits
use Rattle.model.specs.declared.Refusal.TheVariants.{NodesFull, NumbersFull, EdgesFull}
use Rattle.growth.specs.Growth.{verdict_for}
use Rattle.growth.specs.Laws.Growing.{Put, PutEdges}

-- # Whether there is room
module _ (order number size : ℕ) where
  pub room-nodes : Limits.nodes ≤ order → Err NodesFull ≡ verdict_for order number size
  unfolding verdict_for
  room-nodes h = rw (le-leb Limits.nodes order h)

  module _ (few : order < Limits.nodes) where
    pub room-numbers : Limits.last_number < number → Err NumbersFull ≡ verdict_for order number size
    unfolding verdict_for
    room-numbers h = rw (lt-leb Limits.nodes order few, lt-ltb Limits.last_number number h)

    module _ (in_range : number < 2 ^ 16) where
      pub room-edges : Limits.edges < size → Err EdgesFull ≡ verdict_for order number size
      unfolding verdict_for
      room-edges h = rw (lt-leb Limits.nodes order few, le-ltb Limits.last_number number (omega arith), lt-ltb Limits.edges size h)

      pub room-all : size ≤ Limits.edges → Ok tt ≡ verdict_for order number size
      unfolding verdict_for
      room-all h = rw (lt-leb Limits.nodes order few, le-ltb Limits.last_number number (omega arith), le-ltb Limits.edges size h)

-- # Keys put into an array from a place on
module _ (keys : List ℕ) (from : ℕ) (before : List ℕ) where
  pub put-none : from + length keys ≤ length before → Put keys from before 0 before
  put-none h = record { few = zero-le; room = h; put = paste-zero before from keys }

  module _ (i : ℕ) (now : List ℕ) (h : Put keys from before i now) where
    pub put-long : length now ≡ length before
    put-long = rw h.put (length-paste before from keys i (omega (arith, h.room, h.few)) h.few)

    put_all : length keys ≤ i → take (from + length keys) now ≡ take from before ++ keys
    put_all l =
        let all : i ≡ length keys = omega (arith, h.few) in
        rw (h.put, all, take-paste before from keys (length keys) (omega (arith, h.room)) (omega arith), take-length)

-- # The edges of a new node, by its arms
module _ (edges : List ℕ) (size number : ℕ) (arms : List ℕ) where
  abbrev keys : List ℕ
  keys = map (λ a. number * 2 ^ 22 + a) arms

  pub edges_none : size + length arms ≤ length edges → PutEdges edges size number arms 0 edges
  edges_none h = put-none keys size edges (rw length-map h)

  module _ (i : ℕ) (now : List ℕ) (h : PutEdges edges size number arms i now) where
    pub edges-all : length arms ≤ i → take (size + length arms) now ≡ take size edges ++ map (λ a. number * 2 ^ 22 + a) arms
    edges-all l = rw (← length-map arms (λ a. number * 2 ^ 22 + a)) (put_all keys size edges i now h (rw length-map l))

    pub edge-inside : i < length arms → size + i < length now
    edge-inside l =
        let r : size + length keys ≤ length edges = h.room in
        omega (arith, put-long keys size edges i now h, length-map arms (λ a. number * 2 ^ 22 + a))

    pub edges-long : length now ≡ length edges
    edges-long = put-long keys size edges i now h
