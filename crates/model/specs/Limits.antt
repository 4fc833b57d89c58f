-- The limits of document 01, each once.
use Rattle.std.specs.Prelude.{ℕ}

-- "A class is numbered 0..63"; "An edge name is numbered 0..63"
abbrev pub classes : ℕ
classes = 64

abbrev pub names : ℕ
names = 64

-- kinds are 0 or 1, and so is `given` of a pattern node's line
abbrev pub kinds : ℕ
kinds = 2

-- "permitted triples (class, name, class), at most 256"
abbrev pub permitted : ℕ
permitted = 256

-- "A node has a number 0..65535 .. At most 256 nodes."
abbrev pub last_number : ℕ
last_number = 65535

abbrev pub nodes : ℕ
nodes = 256

-- "in a value class, a value 0..65535"
abbrev pub last_value : ℕ
last_value = 65535

-- "An edge is (source number, name, target number), at most 512"
abbrev pub edges : ℕ
edges = 512

-- "A pattern has 0..6 nodes .. and 0..8 edges."
abbrev pub pattern_nodes : ℕ
pattern_nodes = 6

abbrev pub pattern_edges : ℕ
pattern_edges = 8

-- "0..4 arms"; edge addition "(1..4 edges between pattern nodes)"; edge deletion "(1..4 of the pattern's own edges)"
abbrev pub arms : ℕ
arms = 4

abbrev pub puts : ℕ
puts = 4

abbrev pub cuts : ℕ
cuts = 4

-- "a list of at most 8 earlier drawings"
abbrev pub copies : ℕ
copies = 8

-- "op=code, code 0..5"
abbrev pub codes : ℕ
codes = 6
