-- A sound drawing, as statements on its nodes and edges.
-- An edge's ends stand because its triple is permitted, and no node is torn because no two edges clash.
use Rattle.std.specs.Prelude.{ℕ, ◌≤◌, ◌≡◌, Bool, true, false, ◌&&◌, List, map, length, eqb}
use Rattle.std.proofs.Common.{◌∙◌, sym, eq-eqb}
use Rattle.std.proofs.lemmas.Bool.{false≢true}
use Rattle.lists.specs.Lists.{◌∈◌, any}
use Rattle.lists.specs.Order.{rising}
use Rattle.lists.proofs.Laws.Lists.{any-member, both, fails}
use Rattle.model.specs.Limits
use Rattle.model.specs.Graph.{Triple, Scheme, Node, Graph, Instance, row, joins, stands, of_class, permits, clash, torn, twins, nodes_rise}
use Rattle.model.specs.Graph.{in_values, scheme_listed}
use Rattle.model.specs.Sound.{Sound}
use Rattle.model.proofs.Laws.Graph.{stands-node, of-class, joins-triple, ListedGraph, listed-instance, conforming}

pub record WellFormed (s : Scheme) (d : Instance) : Type 0 where
  pub few-nodes : length d.nodes ≤ Limits.nodes
  pub nodes-rise : nodes_rise d ≡ true
  pub few-edges : length d.edges ≤ Limits.edges
  pub edges-rise : rising (map row d.edges) ≡ true
  pub within : (n : Node ℕ) → n ∈ d.nodes → (n.number ≤ Limits.last_number) × (in_values s n.class n.value ≡ true)
  pub permitted : (e : Triple) → e ∈ d.edges → permits s d e ≡ true
  pub whole : (e f : Triple) → e ∈ d.edges → f ∈ d.edges → clash s e f ≡ false
  pub apart : (n m : Node ℕ) → n ∈ d.nodes → m ∈ d.nodes → twins eqb s n m ≡ false

-- # Permitted triples
-- classes that pass go on passing where the tests at the two ends are weaker
pub joins-weaker : (s : Scheme) (from from' : ℕ → Bool) (name : ℕ) (to to' : ℕ → Bool)
    → ((c : ℕ) → from c ≡ true → from' c ≡ true) → ((c : ℕ) → to c ≡ true → to' c ≡ true)
    → joins s from name to ≡ true → joins s from' name to' ≡ true
joins-weaker s from from' name to to' f g h =
    let r = (joins-triple s from name to).0 h in
    let t = r.0 in
    (joins-triple s from' name to').1 (t, r.1, ((f t.source r.2.0.0, r.2.0.1), g t.target r.2.1))

module _ {Value : Type 0} (g : Graph Value) where
  of-class-stands : (i c : ℕ) → of_class g i c ≡ true → stands g i ≡ true
  of-class-stands i c h = let r = (of-class g i c).0 h in (stands-node g i).1 (r.0, r.1, r.2.0)

  -- an edge with a permitted triple of classes has ends that stand
  pub permits-stand : (s : Scheme) (e : Triple) → permits s g e ≡ true → (stands g e.source ≡ true) × (stands g e.target ≡ true)
  permits-stand s e h =
      let r = (joins-triple s (of_class g e.source) e.name (of_class g e.target)).0 h in
      let t = r.0 in
      (of-class-stands e.source t.source r.2.0.0, of-class-stands e.target t.target r.2.1)

-- # Functional names
module _ (s : Scheme) (es : List Triple) where
  abbrev clashing : ℕ → Triple → Bool
  clashing i e = eqb e.source i && any (clash s e) es

  -- where no node is torn, no two edges clash
  pub no-clash : {Value : Type 0} (g : Graph Value) → ((n : Node Value) → n ∈ g.nodes → torn s es n.number ≡ false)
      → (e f : Triple) → stands g e.source ≡ true → e ∈ es → f ∈ es → clash s e f ≡ false
  no-clash g h e f k i j =
      let r = (stands-node g e.source).0 k in
      let n = r.0 in
      (fails (clash s e f)).1 (λ c.
      let here = eq-eqb e.source n.number (sym r.2) in
      let q = (both (eqb e.source n.number) (any (clash s e) es)).1 (here, (any-member (clash s e) es).1 (f, j, c)) in
      false≢true (sym (h n r.1) ∙ (any-member (clashing n.number) es).1 (e, i, q)))

  pub not-torn : ((e f : Triple) → e ∈ es → f ∈ es → clash s e f ≡ false) → (i : ℕ) → torn s es i ≡ false
  not-torn h i =
      (fails (torn s es i)).1 (λ t.
      let r = (any-member (clashing i) es).0 t in
      let q = (any-member (clash s r.0) es).0 ((both (eqb r.0.source i) (any (clash s r.0) es)).0 r.2).1 in
      false≢true (sym (h r.0 q.0 r.1 q.1) ∙ q.2))

-- # Sound drawings
pub well-formed : (s : Scheme) (d : Instance) → Sound s d → WellFormed s d
well-formed s d h =
    let l = (listed-instance s d).0 h.listed in
    let g = l.graph in
    let c = (conforming eqb s d).0 h.conforming in
    record {
      few-nodes = g.few-nodes;
      nodes-rise = g.nodes-rise;
      few-edges = g.few-edges;
      edges-rise = g.edges-rise;
      within = l.within;
      permitted = c.permitted;
      whole = λ e f i. no-clash s d.edges d c.whole e f (g.ends e i).0 i;
      apart = λ n m i. c.apart n i m;
    }

pub sound : (s : Scheme) (d : Instance) → scheme_listed s ≡ true → WellFormed s d → Sound s d
sound s d h r =
    let graph : ListedGraph Limits.nodes Limits.edges d = record {
      few-nodes = r.few-nodes;
      nodes-rise = r.nodes-rise;
      few-edges = r.few-edges;
      edges-rise = r.edges-rise;
      ends = λ e i. permits-stand d s e (r.permitted e i);
    } in
    record {
      scheme = h;
      listed = (listed-instance s d).1 (record { graph = graph; within = r.within });
      conforming = (conforming eqb s d).1 (record {
        permitted = r.permitted;
        whole = λ n i. not-torn s d.edges r.whole n.number;
        apart = λ n i m. r.apart n m i;
      });
    }
