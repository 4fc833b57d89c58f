-- A text is its pieces with the byte that parts them between, and a text made so has these pieces.
-- By induction on the text's lines: a piece without the byte, or such a piece, the byte, and a text.
use Rattle.std.specs.Prelude.{ℕ, ◌≡◌, refl, Bool, true, false, List, [], ◌∷◌, ◌++◌, take, eqb}
use Rattle.std.proofs.Common.{ap, ◌∙◌, sym, subst, append_assoc, append-nil, eq-eqb, eqb-true, ne_eqb}
use mathlib.Core.List.Memᴰ
use Rattle.std.proofs.lemmas.Bool.{eqb-false}
use Rattle.lists.specs.Lists.{◌∈◌, member}
use Rattle.lists.specs.Text.{pieces}
use Rattle.lists.proofs.Laws.Lists.{neither, no_member, in_take, any_append}

-- the pieces with the byte between each two
abbrev pub join : ℕ → List (List ℕ) → List ℕ
join sep [] = []
join sep (p ∷ []) = p
join sep (p ∷ q ∷ ps) = p ++ (sep ∷ join sep (q ∷ ps))

-- # Induction on the lines of a text
module _ (sep : ℕ) (P : List ℕ → Type 0) (last : (w : List ℕ) → member w sep ≡ false → P w)
    (line : (w rest : List ℕ) → member w sep ≡ false → P rest → P (w ++ (sep ∷ rest))) where
  at_byte : (w : List ℕ) (x : ℕ) (t : List ℕ) → member w sep ≡ false → ((u : List ℕ) → member u sep ≡ false → P (u ++ t)) → (b : Bool)
      → eqb sep x ≡ b → P (w ++ (x ∷ t))
  at_byte w x t h ih true e = subst (λ y. P (w ++ (y ∷ t))) (eqb-true sep x e) (line w t h (ih [] refl))
  at_byte w x t h ih false e =
      let without : member (w ++ (x ∷ [])) sep ≡ false = rw (any_append (eqb sep) w (x ∷ []), h, e) in
      rw append_assoc at (ih (w ++ (x ∷ [])) without)

  after-piece : (t w : List ℕ) → member w sep ≡ false → P (w ++ t)
  after-piece [] w h = rw append-nil (last w h)
  after-piece (x ∷ t) w h = at_byte w x t h (after-piece t) (eqb sep x) refl

  -- what holds of texts without the byte, and of a text with one line more, holds of every text
  pub by_lines : (t : List ℕ) → P t
  by_lines t = after-piece t [] refl

module _ (sep : ℕ) where
  differs-back : (x : ℕ) → eqb sep x ≡ false → eqb x sep ≡ false
  differs-back x h = ne_eqb x sep (λ e. eqb-false sep x h (sym e))

  -- a text without the byte is one piece
  pub pieces-one : (w : List ℕ) → member w sep ≡ false → pieces sep w ≡ w ∷ []
  pieces-one [] h = refl
  pieces-one (x ∷ w) h = let e = (neither (eqb sep x) (member w sep)).0 h in rw (differs-back x e.0, pieces-one w e.1)

  -- a piece and the byte that ends it come off
  pub pieces-line : (w rest : List ℕ) → member w sep ≡ false → pieces sep (w ++ (sep ∷ rest)) ≡ w ∷ pieces sep rest
  pieces-line [] rest h = rw (eq-eqb sep sep refl)
  pieces-line (x ∷ w) rest h = let e = (neither (eqb sep x) (member w sep)).0 h in rw (differs-back x e.0, pieces-line w rest e.1)

  -- every text has a first piece
  pub record Parted (t : List ℕ) : Type 0 where
    pub first : List ℕ
    pub rest : List (List ℕ)
    pub parted : pieces sep t ≡ first ∷ rest

  pub pieces-parted : (t : List ℕ) → Parted t
  pieces-parted =
      by_lines sep Parted (λ w h. record { first = w; rest = []; parted = pieces-one w h })
      (λ w rest h ih. record { first = w; rest = pieces sep rest; parted = pieces-line w rest h })

  join-cons : (w t : List ℕ) → Parted t → join sep (w ∷ pieces sep t) ≡ w ++ (sep ∷ join sep (pieces sep t))
  join-cons w t p = rw p.parted

  -- the pieces of a text, joined again, are the text
  pub join-pieces : (t : List ℕ) → join sep (pieces sep t) ≡ t
  join-pieces =
      by_lines sep (λ t. join sep (pieces sep t) ≡ t) (λ w h. ap (join sep) (pieces-one w h))
      (λ w rest h ih. ap (join sep) (pieces-line w rest h) ∙ join-cons w rest (pieces-parted rest) ∙ ap (λ t. w ++ (sep ∷ t)) ih)

  -- pieces without the byte, at least one, are those of the text that joins them
  pub pieces-join : (p : List ℕ) (ps : List (List ℕ)) → ((q : List ℕ) → q ∈ (p ∷ ps) → member q sep ≡ false)
      → pieces sep (join sep (p ∷ ps)) ≡ p ∷ ps
  pieces-join p [] h = pieces-one p (h p (Memᴰ.head refl))
  pieces-join p (q ∷ ps) h =
      pieces-line p (join sep (q ∷ ps)) (h p (Memᴰ.head refl)) ∙ ap (λ r. p ∷ r) (pieces-join q ps (λ r i. h r (Memᴰ.tail i)))

  -- a byte that is in no piece, and is not the byte between them, is not in the text
  pub join-without : (c : ℕ) (ps : List (List ℕ)) → eqb c sep ≡ false → ((q : List ℕ) → q ∈ ps → member q c ≡ false) → member (join sep ps) c ≡ false
  join-without c [] e h = refl
  join-without c (p ∷ []) e h = h p (Memᴰ.head refl)
  join-without c (p ∷ q ∷ ps) e h =
      let rest = join-without c (q ∷ ps) e (λ r i. h r (Memᴰ.tail i)) in
      any_append (eqb c) p (sep ∷ join sep (q ∷ ps)) ∙ rw (h p (Memᴰ.head refl), e, rest)

-- a part of a text has no byte that the text hasn't
pub take-without : (c n : ℕ) (w : List ℕ) → member w c ≡ false → member (take n w) c ≡ false
take-without c n w h = (no_member (eqb c) (take n w)).1 (λ x i. (no_member (eqb c) w).0 h x (in_take n w i))
