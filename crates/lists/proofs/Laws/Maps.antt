-- Lists made from the members of a list: made in two steps, made alike, and made back; tests and folds of them; and that the first of members that
-- rise do. By induction on the members.
use Rattle.std.specs.Prelude.{ℕ, ◌≡◌, refl, Bool, true, false, cond, ◌&&◌, option_map, Option, Some}
use Rattle.std.proofs.Common.{ap, ap₂, ◌∙◌}
use mathlib.Core.List.Memᴰ
use mathlib.Core.List.{List, [], ◌∷◌, ◌++◌, map, map-append, map-map, map-id, foldl}
use Rattle.lists.specs.Lists.{◌∈◌, all, keep, find, each}
use Rattle.lists.specs.Order.{rising}
use Rattle.lists.proofs.Laws.Order.{rising-append}

pub each_map : {A B C : Type 0} (h : A → B) (xs : List A) (g : B → List C) → each (map h xs) g ≡ each xs (λ x. g (h x))
each_map h [] g = refl
each_map h (x ∷ xs) g = ap (λ l. g (h x) ++ l) (each_map h xs g)

pub each_same : {A B : Type 0} (xs : List A) (g h : A → List B) → ((x : A) → x ∈ xs → g x ≡ h x) → each xs g ≡ each xs h
each_same [] g h e = refl
each_same (x ∷ xs) g h e = ap₂ ◌++◌ (e x (Memᴰ.head refl)) (each_same xs g h (λ y i. e y (Memᴰ.tail i)))

pub map_same : {A B : Type 0} (f g : A → B) (xs : List A) → ((x : A) → x ∈ xs → f x ≡ g x) → map f xs ≡ map g xs
map_same f g [] h = refl
map_same f g (x ∷ xs) h = ap₂ ◌∷◌ (h x (Memᴰ.head refl)) (map_same f g xs (λ y i. h y (Memᴰ.tail i)))

-- what g makes of what h makes of each member is the member
pub map_back : {A B : Type 0} (g : B → A) (h : A → B) (xs : List A) → ((x : A) → x ∈ xs → g (h x) ≡ x) → map g (map h xs) ≡ xs
map_back g h xs e = map-map g h xs ∙ map_same (λ x. g (h x)) (λ x. x) xs e ∙ map-id xs

pub each-if : {A B : Type 0} (p : A → Bool) (f : A → B) (xs : List A) → each xs (λ x. cond (p x) (f x ∷ []) []) ≡ map f (keep p xs)
each-if p f [] = refl
each-if {A} {B} p f (x ∷ xs) = go (p x) (keep p xs) (each-if p f xs)
  where
    go : (t : Bool) (l : List A) → each xs (λ y. cond (p y) (f y ∷ []) []) ≡ map f l
        → cond t (f x ∷ []) [] ++ each xs (λ y. cond (p y) (f y ∷ []) []) ≡ map f (cond t (x ∷ l) l)
    go true l e = ap (λ (m : List B). f x ∷ m) e
    go false l e = e

-- what is found among what f makes of the members
pub find-map : {A B : Type 0} (f : A → B) (p : A → Bool) (q : B → Bool) (xs : List A) → ((x : A) → x ∈ xs → q (f x) ≡ p x)
    → find q (map f xs) ≡ option_map f (find p xs)
find-map f p q [] h = refl
find-map {A} {B} f p q (x ∷ xs) h = rw (h x (Memᴰ.head refl), find-map f p q xs (λ y i. h y (Memᴰ.tail i))) (go (p x) (find p xs))
  where
    go : (t : Bool) (o : Option A) → cond t (Some (f x)) (option_map f o) ≡ option_map f (cond t (Some x) o)
    go true o = refl
    go false o = refl

pub rising-front : {A : Type 0} (f : A → List ℕ) (xs ys : List A) → rising (map f (xs ++ ys)) ≡ true → rising (map f xs) ≡ true
rising-front f xs ys h = ((rising-append (map f xs) (map f ys)).0 (rw map-append at h)).0

-- # Tests and folds of lists that are made alike
module _ {A : Type 0} where
  pub all_same : (p q : A → Bool) (xs : List A) → ((x : A) → x ∈ xs → p x ≡ q x) → all p xs ≡ all q xs
  all_same p q [] h = refl
  all_same p q (x ∷ xs) h = ap₂ ◌&&◌ (h x (Memᴰ.head refl)) (all_same p q xs (λ y i. h y (Memᴰ.tail i)))

  pub keep_same : (p q : A → Bool) (xs : List A) → ((x : A) → x ∈ xs → p x ≡ q x) → keep p xs ≡ keep q xs
  keep_same p q [] h = refl
  keep_same p q (x ∷ xs) h = rw (h x (Memᴰ.head refl), keep_same p q xs (λ y i. h y (Memᴰ.tail i)))

pub all_map : {A B : Type 0} (f : A → B) (p : B → Bool) (xs : List A) → all p (map f xs) ≡ all (λ x. p (f x)) xs
all_map f p [] = refl
all_map f p (x ∷ xs) = ap (λ t. p (f x) && t) (all_map f p xs)

pub map_each : {A B C : Type 0} (h : B → C) (xs : List A) (f : A → List B) → map h (each xs f) ≡ each xs (λ x. map h (f x))
map_each h [] f = refl
map_each h (x ∷ xs) f = map-append h (f x) (each xs f) ∙ ap (λ l. map h (f x) ++ l) (map_each h xs f)

pub fold-map : {A B C : Type 0} (h : B → C) (f : A → C → A) (xs : List B) (a : A) → foldl f a (map h xs) ≡ foldl (λ b x. f b (h x)) a xs
fold-map h f [] a = refl
fold-map h f (x ∷ xs) a = fold-map h f xs (f a (h x))
