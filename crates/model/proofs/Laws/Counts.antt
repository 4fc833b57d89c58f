-- The counts that apply reports are the sizes of sets: matchings, and nodes and edges that only one of the two drawings has.
-- Rows of nodes and of edges rise, so that no row stands twice; what both drawings have is one rising list, from either side.
use Rattle.std.specs.Prelude.{ℕ, ◌+◌, ◌≡◌, refl, ◌↔◌, Bool, true, not, List, [], ◌∷◌, map, length}
use Rattle.std.proofs.Common.{arith, ap, ap₂, ◌∙◌, sym}
use Rattle.std.proofs.lemmas.Bool.{false≢true}
use mathlib.Core.List.Memᴰ
use Rattle.std.proofs.lemmas.List.{length-map}
use Rattle.lists.specs.Lists.{◌∈◌, any, keep}
use Rattle.lists.specs.Order.{same, rising}
use Rattle.lists.proofs.Laws.Lists.{not_so, fails, in-keep, in_map, keep-map, keep-none, keep-split}
use Rattle.lists.proofs.Laws.Order.{before-heads, rising-keep, rising-determined, rising-map-keep, rising-map-by, in-lists}
use Rattle.model.specs.Graph.{Scheme, Node, Instance, Pattern, row}
use Rattle.model.specs.Matching.{matchings}
use Rattle.model.specs.Refusals.{accepted}
use Rattle.model.specs.Operations.{Action, pattern_only, perform, only_in, node_row, difference, counts}
use Rattle.model.specs.Sound.{Sound}
use Rattle.model.specs.Files.DrawingFile.{node_of}
use Rattle.model.specs.declared.Difference.{Difference}
use Rattle.model.specs.Meaning.{Adds, Deletes, Within, CountsOnly, Differs, Reports}
use Rattle.model.proofs.Laws.Graph.{row-determines}
use Rattle.model.proofs.Laws.Matchings.{in-matchings, matchings-rise}
use Rattle.model.proofs.Laws.Sound.{WellFormed, well-formed}
use Rattle.model.proofs.Laws.Within.{within-itself}
use Rattle.model.proofs.Laws.Operations.{additions-remove-nothing, deletions-add-nothing, pattern-only-changes-nothing}

-- # Lists of rows
module _ {A : Type 0} (row_of : A → List ℕ) (determines : (x y : A) → row_of x ≡ row_of y → x ≡ y) where
  row-among : (ys : List A) (z : A) → (any (same (row_of z)) (map row_of ys) ≡ true) ↔ (z ∈ ys)
  row-among ys z = (
    (λ h. let r = (in_map row_of ys).0 ((in-lists (map row_of ys) (row_of z)).0 h) in Memᴰ.cast (determines z r.0 r.2) r.1),
    λ i. (in-lists (map row_of ys) (row_of z)).1 ((in_map row_of ys).1 (z, i, refl)),
  )

  counts-only : (xs ys : List A) → rising (map row_of xs) ≡ true → CountsOnly row_of xs ys (only_in (map row_of xs) (map row_of ys))
  counts-only xs ys h =
      record {
        only = keep absent xs;
        rise = rising-map-keep row_of absent xs h;
        members = λ z. (
          (λ i.
              let r = (in-keep absent xs).0 i in
              (r.0, λ j. false≢true (sym ((not_so (any (same (row_of z)) (map row_of ys))).0 r.1) ∙ (row-among ys z).1 j))),
          λ h.
              let there = any (same (row_of z)) (map row_of ys) in
              (in-keep absent xs).1 (h.0, (not_so there).1 ((fails there).1 (λ t. h.1 ((row-among ys z).0 t)))),
        );
        count = ap length (keep-map row_of (λ x. not (any (same x) (map row_of ys))) xs) ∙ length-map (keep absent xs) row_of;
      }
    where
      absent : A → Bool
      absent x = not (any (same (row_of x)) (map row_of ys))

none_only : {A : Type 0} (row_of : A → List ℕ) (xs ys : List A) → ((x : A) → x ∈ xs → x ∈ ys) → only_in (map row_of xs) (map row_of ys) ≡ 0
none_only row_of xs ys h =
    ap length (keep-none (λ x. not (any (same x) (map row_of ys))) (map row_of xs) (λ z i.
    let r = (in_map row_of xs).0 i in
    ap not ((in-lists (map row_of ys) z).1 ((in_map row_of ys).1 (r.0, h r.0 r.1, r.2)))))

-- what two rising lists have in common is one list
common : (xs ys : List (List ℕ)) → rising xs ≡ true → rising ys ≡ true → keep (λ x. any (same x) ys) xs ≡ keep (λ y. any (same y) xs) ys
common xs ys h k =
    rising-determined (keep (among ys) xs) (keep (among xs) ys) (rising-keep (among ys) xs h) (rising-keep (among xs) ys k) (within xs ys) (within ys xs)
  where
    among : List (List ℕ) → List ℕ → Bool
    among us z = any (same z) us

    within : (us vs : List (List ℕ)) (z : List ℕ) → z ∈ keep (among vs) us → z ∈ keep (among us) vs
    within us vs z i =
        let r = (in-keep (among vs) us).0 i in
        (in-keep (among us) vs).1 ((in-lists vs z).0 r.1, (in-lists us z).1 r.0)

-- what xs has, and what only ys has, are together what ys has and what only xs has
balance : (xs ys : List (List ℕ)) → rising xs ≡ true → rising ys ≡ true → length xs + only_in ys xs ≡ length ys + only_in xs ys
balance xs ys h k =
    let e = ap length (common xs ys h k) in
    omega (arith, keep-split (λ x. any (same x) ys) xs, keep-split (λ y. any (same y) xs) ys)

-- # Nodes and edges
node-row-determines : (n m : Node ℕ) → node_row n ≡ node_row m → n ≡ m
node-row-determines n m e = ap node_of e

node-rows-rise : {s : Scheme} {d : Instance} → WellFormed s d → rising (map node_row d.nodes) ≡ true
node-rows-rise {d = d} h =
    rising-map-by (λ n. n.number ∷ []) node_row
    (λ n m. before-heads n.number m.number (n.class ∷ n.value ∷ []) (m.class ∷ m.value ∷ []))
    d.nodes h.nodes-rise

differ : (s : Scheme) (d e : Instance) → WellFormed s d → Differs d e (difference d e)
differ s d e h =
    record {
      nodes = counts-only node_row node-row-determines d.nodes e.nodes (node-rows-rise h);
      edges = counts-only row row-determines d.edges e.edges h.edges-rise;
    }

-- for sound drawings the five counts are those of `Reports`
pub counts-report : (s : Scheme) (p : Pattern) (old new : Instance) → Sound s old → Sound s new → Reports p old new (counts p old new)
unfolding counts
counts-report s p old new h k =
    record {
      matchings = record {
        found = matchings p old;
        rise = matchings-rise p old (well-formed s old h).nodes-rise;
        members = in-matchings p old;
        count = refl;
      };
      added = differ s new old (well-formed s new k);
      removed = differ s old new (well-formed s old h);
    }

-- the new drawing's nodes and the removed ones are as many as the old drawing's and the added ones; edges likewise
pub counts-balance : (s : Scheme) (p : Pattern) (old new : Instance) → Sound s old → Sound s new
    → (length new.nodes + (counts p old new).removed.nodes ≡ length old.nodes + (counts p old new).added.nodes)
    × (length new.edges + (counts p old new).removed.edges ≡ length old.edges + (counts p old new).added.edges)
unfolding counts
counts-balance s p old new h k =
    let o = well-formed s old h in
    let n = well-formed s new k in (
      simp length-map at (balance (map node_row new.nodes) (map node_row old.nodes) (node-rows-rise n) (node-rows-rise o)),
      simp length-map at (balance (map row new.edges) (map row old.edges) n.edges-rise o.edges-rise),
    )

-- # None added, none removed
abbrev pub no_difference : Difference
no_difference = record { nodes = 0; edges = 0 }

no_difference_lem : (d e : Instance) → Within d e → difference d e ≡ no_difference
no_difference_lem d e w =
    ap₂ (λ (x y : ℕ). record { nodes = x; edges = y })
    (none_only node_row d.nodes e.nodes w.nodes)
    (none_only row d.edges e.edges w.edges)

module _ (s : Scheme) (p : Pattern) (ms : List (List ℕ)) (d e : Instance) where
  -- an accepted addition is reported with no node and no edge removed
  pub additions-count-none-removed : {a : Action} → Adds a → perform s a ms d ≡ accepted e → (counts p d e).removed ≡ no_difference
  unfolding counts
  additions-count-none-removed k h = no_difference_lem d e (additions-remove-nothing s ms d e k h)

  -- an accepted deletion is reported with no node and no edge added
  pub deletions-count-none-added : {a : Action} → Deletes a → perform s a ms d ≡ accepted e → (counts p d e).added ≡ no_difference
  unfolding counts
  deletions-count-none-added k h = no_difference_lem e d (deletions-add-nothing s ms d e k h)

  -- "Applying 0 changes nothing but counts": none added, none removed
  pub pattern-only-counts-none : perform s pattern_only ms d ≡ accepted e → ((counts p d e).added ≡ no_difference) × ((counts p d e).removed ≡ no_difference)
  unfolding counts
  pattern-only-counts-none h =
      let same = no_difference_lem d d (within-itself d) in
      rw (pattern-only-changes-nothing s ms d e h) (same, same)
