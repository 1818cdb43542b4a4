-- Document 01, 'Lists of calls': sample calls and hops handed to a chain one after another, what they leave, and demand 3 as a record with a part for each of
-- its sentences. Definitions only.
use Rattle.std.specs.Prelude.{◌≡◌, Bool, true, false, List, [], ◌∷◌, ◌++◌, ℕ, ◌+◌, ◌*◌, ◌≤◌, length, take, drop, Float}
use Rattle.rules.specs.Constants.{zero_f, total_limit}
use Rattle.rules.specs.Mode.{off, apply}
use Rattle.rules.specs.Log.{Stage, Mark, ring_number, repairs_of, repair_width, store_width}
use Rattle.rules.specs.Monitor.{Hop, Answer}
use Rattle.rules.specs.Answers.{Said, accepted, nothing, refused, is_accepted}
use Rattle.rules.specs.Chain.{released, held_of, clamped_of, ring_of, impulse_events, repair_ring, long_runs_of, dc_level, settled_by, evidence, last_words}
use Rattle.stage_log.specs.View.{ring_in, marks_at}
use Rattle.rules.specs.Guard.{Usable}
use Rattle.rules.specs.Impulse.{lookahead_size}
use Rattle.iq.specs.View.{settled_of}
use Rattle.stage_mode.specs.View.{mode_of}
use Rattle.chain_config.specs.declared.ConditioningConfig.{ConditioningConfig}
use Rattle.chain_config.specs.Config.{config_of}
use Rattle.chain_state.specs.declared.InputConditioner.{InputConditioner}
use Rattle.chain_make.specs.Making.{fresh_state, making_said, made_words}
use Rattle.chain_log.specs.Reading.{state_level}
use Rattle.chain.specs.Stages.{Machine, machine_of, new_part}
use Rattle.chain.specs.Calls as calls
use Rattle.chain.specs.Calls.{called}
use Rattle.iq_monitor.specs.Observe as image
use Rattle.chain_hop.specs.Hops.{Hopped, hop_of}
use Rattle.chain_undo.specs.Undoing.{undo_of}

-- ---- operations

-- what an operation is handed: what the one before it left, or something else
pub data Given (A : Type 0) : Type 0 where
  own : Given A
  other : A → Given A

abbrev pub handed : {A : Type 0} → Given A → A → A
handed own a = a
handed (other b) a = b

-- 'the next gets what stood before it': what was the chain's own is as the operation left it, and what was not is as it was
abbrev pub kept : {A : Type 0} → Given A → A → A → A
kept own a left = left
kept (other b) a left = a

-- what an operation is handed: a state, a span store, a repair store and monitor words. What it has no use for it leaves alone
pub record Lent : Type 0 where
  pub state : Given InputConditioner
  pub spans : Given (List ℕ)
  pub repairs : Given (List ℕ)
  pub words : Given (List Float)

abbrev pub all_own : Lent
all_own = record { state = own; spans = own; repairs = own; words = own }

-- 'Each call or hop has a slice of its own'
pub data Act : Type 0 where
  -- the slice
  call : List ℕ → Act
  -- the start and the channels
  hop : Hop → Act

-- 'a refused one may also be handed another state or store'
pub record Operation : Type 0 where
  pub lent : Lent
  pub act : Act

-- one that is handed what the one before it left
abbrev pub ownly : Act → Operation
ownly a = record { lent = all_own; act = a }

-- ---- an act on a machine and monitor words

-- what it is accepted with: how many samples are ready; a hop's answer
abbrev pub Value : Act → Type 0
Value (call slice) = ℕ
Value (hop h) = Answer

-- the answer, the machine, the monitor's words, and the slice
pub record Outcome (A : Type 0) : Type 0 where
  pub said : Said A
  pub machine : Machine
  pub words : List Float
  pub slice : List ℕ

-- what an operation is not lent stays
abbrev pub after_called : calls.Outcome → List Float → Outcome ℕ
after_called o ws = record { said = o.said; machine = o.machine; words = ws; slice = o.samples }

abbrev pub after_hopped : List ℕ → List ℕ → Hopped → Outcome Answer
after_hopped repairs slice o =
    record { said = image.said o.answer; machine = machine_of o.state o.spans repairs; words = o.words; slice = slice }

abbrev pub applied : (a : Act) → Machine → List Float → Outcome (Value a)
applied (call slice) m ws = after_called (called m slice) ws
applied (hop h) m ws = after_hopped m.repairs h.channels (hop_of m.state h.channels h.start m.spans ws)

-- ---- a chain, and what its accepted operations came to

pub record Chain : Type 0 where
  -- the state, the span store and the repair store; the monitor's words
  pub machine : Machine
  pub words : List Float
  -- the samples that accepted calls brought, joined, and those that they released
  pub brought : List ℕ
  pub released : List ℕ
  -- the accepted hops, and 'the accepted hops' answers in order'
  pub hops : List Hop
  pub answers : List Answer

-- what an accepted one adds. 'Ready is how many samples a call releases, from its first place on'; 'one that adds without a report is accepted'
abbrev pub advance : (a : Act) → Chain → Outcome (Value a) → Value a → Chain
advance (call slice) y o k =
    record {
      machine = o.machine;
      words = o.words;
      brought = y.brought ++ new_part y.machine.state slice;
      released = y.released ++ take k o.slice;
      hops = y.hops;
      answers = y.answers;
    }
advance (hop h) y o a =
    record {
      machine = o.machine;
      words = o.words;
      brought = y.brought;
      released = y.released;
      hops = y.hops ++ (h ∷ []);
      answers = y.answers ++ (a ∷ []);
    }

-- one that is not accepted adds nothing. 'A hop answered by nothing .. isn't accepted'
abbrev pub leave : {A : Type 0} → Lent → Chain → Outcome A → Chain
leave l y o =
    record {
      machine =
          machine_of (kept l.state y.machine.state o.machine.state) (kept l.spans y.machine.spans o.machine.spans)
          (kept l.repairs y.machine.repairs o.machine.repairs);
      words = kept l.words y.words o.words;
      brought = y.brought;
      released = y.released;
      hops = y.hops;
      answers = y.answers;
    }

-- ---- a list

-- an act on what is lent
abbrev pub on : (y : Chain) (o : Operation) → Outcome (Value o.act)
on y o =
    let l = o.lent in
    let m = y.machine in
    applied o.act (machine_of (handed l.state m.state) (handed l.spans m.spans) (handed l.repairs m.repairs)) (handed l.words y.words)

abbrev pub settle : (a : Act) → Lent → Chain → Outcome (Value a) → Said (Value a) → Chain
settle a l y o (accepted v) = advance a y o v
settle a l y o nothing = leave l y o
settle a l y o (refused r) = leave l y o

unfoldable pub next : Chain → Operation → Chain
next y o = settle o.act o.lent y (on y o) (on y o).said

-- the chain after a list of operations
abbrev pub run : Chain → List Operation → Chain
run y [] = y
run y (o ∷ os) = run (next y o) os

-- ---- who is handed what

abbrev pub Accepted : Chain → Operation → Type 0
Accepted y o = is_accepted (on y o).said ≡ true

-- 'each finds state and stores as the one before left them, and nobody else writes there': so an accepted operation has the chain's own
abbrev pub Proper : Chain → List Operation → Type 0
Proper y [] = Unit {0}
Proper y (o ∷ os) = (Accepted y o → o.lent ≡ all_own) × Proper (next y o) os

abbrev pub AllAccepted : Chain → List Operation → Type 0
AllAccepted y [] = Unit {0}
AllAccepted y (o ∷ os) = Accepted y o × AllAccepted (next y o) os

-- ---- a chain that was made

-- as making leaves it: its state, and the lent words, whatever stood in them
unfoldable pub made_chain : ConditioningConfig → List ℕ → List ℕ → List Float → Chain
made_chain g spans repairs words =
    let said = making_said (config_of g) (length spans) (length repairs) (length words) in
    record {
      machine = machine_of (fresh_state g) (made_words 0 said spans) (made_words 0 said repairs);
      words = made_words zero_f said words;
      brought = [];
      released = [];
      hops = [];
      answers = [];
    }

-- ---- what the rules give for the whole input: the samples brought and the hops

pub record ByRules (g : ConditioningConfig) (y : Chain) : Type 0 where
  -- 'joined released samples, bits included'
  pub released : y.released ≡ released (config_of g) y.brought
  -- 'Log, as the last state and stores hold it: these three' (released, seen, held)
  pub seen : y.machine.state.counts.seen ≡ length y.brought
  pub count : y.machine.state.counts.released ≡ length y.released
  pub held : y.machine.state.counts.held ≡ held_of (config_of g) y.brought
  -- document 02, R-1: 'the log counts those steps'
  pub clamped : y.machine.state.counts.clamped ≡ clamped_of (config_of g) y.brought
  -- 'every count and ring head, all span .. words': the twelve rings are the whole store
  pub span_words_lem : length y.machine.spans ≡ store_width * g.spans
  pub rings : (st : Stage) (m : Mark)
      → marks_at g.spans (record { log = y.machine.state.notes.log; spans = y.machine.spans }) (ring_number st m)
      ≡ ring_of (config_of g) y.brought y.hops st m
  -- 'and repair words'
  pub repair_words_lem : length y.machine.repairs ≡ repair_width * g.repairs
  pub repairs : ring_in y.machine.state.notes.repairs y.machine.repairs ≡ repair_ring (config_of g) y.brought
  pub longruns : y.machine.state.notes.longruns ≡ long_runs_of (config_of g) y.brought
  -- 'DC level, what IQ settled'
  pub level : state_level y.machine.state ≡ dc_level (config_of g) y.brought
  pub settled : settled_of y.machine.state.settings.iq ≡ settled_by (config_of g)
  -- 'Evidence: the accepted hops' answers in order and the last monitor words.'
  pub answers : y.answers ≡ evidence (config_of g) y.hops
  pub words : y.words ≡ last_words (config_of g) y.hops

-- ---- number 5

pub record NoFive (y : Chain) : Type 0 where
  pub act : (a : Act) → (on y (ownly a)).said ≡ refused (5 ∷ []) → ⊥
  pub undo : (samples : List ℕ) (first : ℕ) → (undo_of y.machine.state y.machine.repairs samples first).said ≡ refused (5 ∷ []) → ⊥

-- ---- DEMAND 3

-- acts one after another, each handed what the one before left
abbrev pub own_all : List Act → List Operation
own_all [] = []
own_all (a ∷ l) = ownly a ∷ own_all l

abbrev pub hopping : List Hop → List Act
hopping [] = []
hopping (h ∷ hs) = hop h ∷ hopping hs

-- samples in calls: of each given size, as far as they go, and the rest. So many words stand in the held places, which are never read
abbrev pub calling : (ℕ → List ℕ) → ConditioningConfig → List ℕ → List ℕ → List ℕ → List Act
calling front g xs ys [] = call (front (held_of (config_of g) xs) ++ ys) ∷ []
calling front g xs ys (n ∷ sizes) = call (front (held_of (config_of g) xs) ++ take n ys) ∷ calling front g (xs ++ take n ys) (drop n ys) sizes

-- two lists in one, each in its order, by whose turn it is; one that has none left lets its turn pass
abbrev pub merged : {A : Type 0} → List Bool → List A → List A → List A
merged [] l r = l ++ r
merged (true ∷ turns) [] r = merged turns [] r
merged (true ∷ turns) (a ∷ l) r = a ∷ merged turns l r
merged (false ∷ turns) l [] = merged turns l []
merged (false ∷ turns) l (b ∷ r) = b ∷ merged turns l r

-- two lists of operations, from chains y and z that were made with one configuration
pub record OneRecord (g : ConditioningConfig) (y z : Chain) (os ps : List Operation) : Type 0 where
  -- 'they share joined released samples, bits included, and every part of the final log and evidence'
  pub alike : run y os ≡ run z ps
  -- 'All these are as demand 2's rules give them for the whole input.'
  pub ruled : ByRules g (run y os)
  -- 'On a fresh chain one call with all the samples is accepted': behind any list, so behind none and behind hops too, any words in the held places and any
  -- usable samples, up to 2^48 in all
  pub takes : (front xs : List ℕ) → length front ≡ held_of (config_of g) (run y os).brought → Usable xs → length (run y os).brought + length xs ≤ total_limit
      → Accepted (run y os) (ownly (call (front ++ xs)))
  -- 'with those hops, at any points, it is such a list too.' So is any cutting
  pub once : (front : ℕ → List ℕ) → ((k : ℕ) → length (front k) ≡ k) → (sizes : List ℕ) (turns : List Bool)
      → let all = own_all (merged turns (hopping (run y os).hops) (calling front g [] (run y os).brought sizes)) in
      AllAccepted y all × (Proper y all × (run y all ≡ run y os))
  -- 'No operation handed the state and stores that such a list leaves meets number 5.'
  pub no_five : NoFive (run y os)
  -- 'After each list seen = released + held, held at most 21.'
  pub sum : (run y os).machine.state.counts.seen ≡ (run y os).machine.state.counts.released + (run y os).machine.state.counts.held
  pub few : (run y os).machine.state.counts.held ≤ lookahead_size
  -- 'Where impulse repair alone applies, the other stages are off and no repair was dropped, undoing repairs on the joined released samples, from sample 0,
  -- gives each its input bits again.'
  pub undone : mode_of g.impulse ≡ apply → mode_of g.dc ≡ off → mode_of g.iq ≡ off
      → length (repairs_of (impulse_events (config_of g) (run y os).brought)) ≤ g.repairs
      → undo_of (run y os).machine.state (run y os).machine.repairs (run y os).released 0
      ≡ record { said = accepted tt; samples = take (length (run y os).released) (run y os).brought }
