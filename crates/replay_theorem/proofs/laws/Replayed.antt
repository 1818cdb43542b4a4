-- A replay prints what the rules give for the whole recording, however long it is. Assumes nothing.
use Rattle.std.specs.Prelude.{◌≡◌, Bool, ◌&&◌, Float}
use Rattle.std.proofs.Math.Path.{refl, ap, sym}
use Rattle.std.proofs.Common.{◌∙◌, subst, suc-mul, length-append}
use Rattle.std.proofs.Math.Bool.{true, false, cond}
use mathlib.Core.List.{List, [], ◌∷◌, ◌++◌, append_assoc, append-nil, sum}
use Prim.Native.Nat.{ℕ, zero, suc, ◌+◌, ◌-◌, ◌*◌, ◌/◌, ◌^◌, ◌≤◌, ◌<◌}
use Rattle.std.proofs.Math.Nat.{min-eq_left}
use Rattle.std.proofs.Math.Decide.{dec_lt}
use native.Mathlib.Omega.{arith}
use borrow.Author.Tests.{lt-ltb, le-ltb, le-leb, eq-eqb}
use Rattle.std.proofs.Math.ListN.{length, take}
use Rattle.std.proofs.Math.Seq.{take_all}
use Rattle.rules.specs.Answers.{Said, refused}
use Rattle.rules.specs.Guard.{guarded, unusable, Usable}
use Rattle.rules.specs.Iq.{Calibrated, none, with}
use Rattle.rules.specs.Mode.{Mode, off, observe, apply}
use Rattle.rules.specs.Pauses.{Edition, first, second}
use Rattle.rules.specs.Log.{Stage, impulse, dc, iq, Mark, Repaired, Flagged, Corrected, Uncertain, Marks, ring_number, spans_of, store_width}
use Rattle.rules.specs.Log as log
use Rattle.rules.specs.Refusals.{first_of, too_many}
use Rattle.rules.specs.Chain as rules
use Rattle.rules.specs.Chain.{Config}
use Rattle.rules.specs.Constants.{total_limit, span_limit}
use Rattle.rules.specs.Impulse.{lookahead_size}
use Rattle.stage_log.specs.Check.{ring_of, count_of, sum_to, spans_dropped, dropped_in_all}
use Rattle.stage_log.proofs.laws.CheckLaws.{InRange, log_range}
use Rattle.stage_log.specs.View.{marks_at}
use Rattle.iq.specs.View.{calibrated_of}
use Rattle.stage_mode.specs.View.{mode_of}
use Rattle.impulse_pause.specs.View.{edition_of}
use Rattle.chain_config.specs.declared.ConditioningConfig.{ConditioningConfig}
use Rattle.chain_config.specs.Config.{config_of, all_off, refusal}
use Rattle.chain_state.proofs.laws.FitsLaws.{state_groups}
use Rattle.chain_make.specs.Making as making
use Rattle.chain_make.specs.Making.{fresh_state, fresh_settings, nothing, made, making_said, made_words, numbered}
use Rattle.chain.specs.Stages.{Machine, machine_of, new_part, process}
use Rattle.chain.specs.Calls.{Outcome, taken}
use Rattle.chain.proofs.laws.CallTests.{taken_by, declined_by}
use Rattle.amplitude_limit.specs.Limit.{returned}
use Rattle.one_record.specs.Lists.{Chain, made_chain, ByRules}
use Rattle.one_record.proofs.laws.Made.{Fit, made_fit}
use Rattle.one_record.proofs.laws.Good.{state_good}
use Rattle.one_record.proofs.laws.Reaching.{core, chain_at, Reached, machine_more}
use Rattle.one_record.proofs.laws.Hopping.{with_hops}
use Rattle.one_record.proofs.laws.Fresh.{fresh_is, made_is}
use Rattle.one_record.proofs.laws.OneRecord.{at_rules, at_few, spans_long, call_accepted, call_beyond}
use Rattle.replay_format.specs.Format.{header_fits, header_size, sample_size, config_in, words_in, samples_in, input_refusal, tail_refusal}
use Rattle.replay_format.proofs.laws.FormatLaws.{words_many, tail_by, bad_header_lem, good_header}
use Rattle.replay_format.proofs.laws.FrontLaws.{too_short, same_fits, same_config}
use Rattle.replay_format.proofs.laws.HeaderLaws.{said_where}
use Rattle.replay_format.specs.Header as header
use Rattle.replay_format.specs.Header.{header_number, mode_from, edition_from, calibration_from, config_from}
use Rattle.replay_feed.specs.Feeding.{held_in, new_many, new_words, slice, taken_block, fed}
use Rattle.replay_feed.proofs.laws.FeedingLaws as feeding
use Rattle.replay_feed.proofs.laws.FeedingLaws.{guarded_usable, slice_long, fed_said, fed_taken}
use Rattle.replay_start.specs.Starting.{made_by, start_said, config_by, start_state}
use Rattle.replay_report.specs.Report.{rings_of, ring_by, report_text, report_by, text_unless, played_text, printed}
use Rattle.replay_text.specs.Notices.{refused_text, off_text}
use Rattle.replay_report.specs.Shown.{shown_spans, shown_ring, report_in}
use Rattle.replay_theorem.proofs.laws.BlockLaws.{words_append, no_words, behind_header, guarded_append, guarded_count}
use Rattle.replay_theorem.proofs.laws.BlockLaws.{unusable_append, same_tail}
use Rattle.replay_theorem.specs.Replay.{Block, joined, last_bytes, after_call, played, answered_by, started_text, ended_text, replayed, Fits, Read}

-- ---- the configuration in the code's types is the header's

config_again : (c : Config) → config_of (config_from c) ≡ c
config_again c =
    λ i.
    record {
      impulse_mode = mode c.impulse_mode i;
      dc_mode = mode c.dc_mode i;
      iq_mode = mode c.iq_mode i;
      fs = c.fs;
      centre = c.centre;
      n = c.n;
      calibration = calibration c.calibration i;
      spans = c.spans;
      repairs = c.repairs;
      edition = edition c.edition i;
    }
  where
    edition : (e : Edition) → edition_of (edition_from e) ≡ e
    edition first = refl
    edition second = refl

    mode : (m : Mode) → mode_of (mode_from m) ≡ m
    mode off = refl
    mode observe = refl
    mode apply = refl

    calibration : (x : Calibrated) → calibrated_of (calibration_from x) ≡ x
    calibration none = refl
    calibration (with x) = refl

-- a sum of terms up to b
sum_most : (t : ℕ → ℕ) (b n : ℕ) → ((k : ℕ) → k < n → t k ≤ b) → sum_to t n ≤ n * b
unfolding sum_to
sum_most t b zero h = omega arith
sum_most t b (suc n) h = let r = sum_most t b n (λ k l. h k (omega arith)) in let q = h n (omega arith) in let m = suc-mul n b in omega (arith, r, q, m)

-- ---- the report of the chain after samples is that of the rules

module _ (g : ConditioningConfig) (f : Fit g) (raw : List ℕ) (r : Reached g (guarded raw) []) where
  abbrev chain : Chain
  chain = chain_at g (guarded raw) []

  by : ByRules g (chain_at g (guarded raw) [])
  by = at_rules g f (guarded raw) [] r

  brought_is : (chain_at g (guarded raw) []).brought ≡ guarded raw
  unfolding chain_at
  brought_is = refl

  hops_is : (chain_at g (guarded raw) []).hops ≡ []
  unfolding chain_at
  hops_is = refl

  capacity_is : (chain_at g (guarded raw) []).machine.state.settings.spans ≡ g.spans
  unfolding chain_at with_hops core process fresh_state fresh_settings
  capacity_is = refl

  range : (k : ℕ) → k < 12
      → InRange chain.machine.state.settings.spans (ring_of chain.machine.state.notes.log k) (count_of chain.machine.state.notes.log k)
  range k h =
      log_range chain.machine.state.settings.spans chain.machine.state.notes.log k
      (state_groups chain.machine.state (state_good g f (guarded raw) [] r)).log h

  -- a ring's marks, as the log has them
  ring_is : (s : Stage) (m : Mark)
      → marks_at g.spans (record { log = chain.machine.state.notes.log; spans = chain.machine.spans }) (ring_number s m)
      ≡ rules.ring_of (config_of g) (guarded raw) [] s m
  ring_is s m = by.rings s m ∙ (λ i. rules.ring_of (config_of g) (brought_is i) (hops_is i) s m)

  spans_shown : (k : ℕ) → k < 12
      → shown_spans chain.machine.state chain.machine.spans k
      ≡ spans_of g.spans (marks_at g.spans (record { log = chain.machine.state.notes.log; spans = chain.machine.spans }) k).ring
  unfolding shown_spans
  spans_shown k h =
      let c = chain.machine.state in
      let cap = c.settings.spans in
      let t = range k h in
      λ i.
      cond
      ((lt-ltb 0 cap (omega (arith, capacity_is, f.limits.some_spans)) i && le-leb cap span_limit (omega (arith, capacity_is, f.limits.few_spans)) i
      && eq-eqb (length chain.machine.spans) (store_width * cap) (spans_long g f (guarded raw) [] r) i)
      && (lt-ltb (ring_of c.notes.log k).head cap t.head_in i && le-leb (ring_of c.notes.log k).count cap t.count_in i))
      (spans_of (capacity_is i) (marks_at (capacity_is i) (record { log = c.notes.log; spans = chain.machine.spans }) k).ring)
      []

  ring_shown : (s : Stage) (m : Mark) → ring_number s m < 12
      → shown_ring chain.machine.state chain.machine.spans s m ≡ ring_by g.spans s m (rules.ring_of (config_of g) (guarded raw) [] s m)
  unfolding marks_at
  ring_shown s m h =
      λ i.
      record {
        stage = s;
        mark = m;
        count = (ring_is s m i).samples;
        spans = (spans_shown (ring_number s m) h ∙ ap (λ (x : Marks). spans_of g.spans x.ring) (ring_is s m)) i;
      }

  -- dropped spans
  drop_is : (s : Stage) (m : Mark)
      → (ring_of chain.machine.state.notes.log (ring_number s m)).dropped ≡ (rules.ring_of (config_of g) (guarded raw) [] s m).ring.dropped
  unfolding marks_at
  drop_is s m = ap (λ (x : Marks). x.ring.dropped) (ring_is s m)

  few : sum_to (λ k. (ring_of chain.machine.state.notes.log k).dropped) 12 ≤ 12 * 2 ^ 52
  few = sum_most (λ k. (ring_of chain.machine.state.notes.log k).dropped) (2 ^ 52) 12 (λ k h. (range k h).dropped)

  sum_is : sum_to (λ k. (ring_of chain.machine.state.notes.log k).dropped) 12
      ≡ sum ◌+◌ 0 (rings_of (λ s m. (rules.ring_of (config_of g) (guarded raw) [] s m).ring.dropped))
  unfolding sum_to sum
  sum_is =
      omega (
        arith,
        drop_is impulse Repaired,
        drop_is impulse Flagged,
        drop_is impulse Corrected,
        drop_is impulse Uncertain,
        drop_is dc Repaired,
        drop_is dc Flagged,
        drop_is dc Corrected,
        drop_is dc Uncertain,
        drop_is iq Repaired,
        drop_is iq Flagged,
        drop_is iq Corrected,
        drop_is iq Uncertain,
      )

  drops_are : dropped_in_all chain.machine.state.notes.log ≡ sum ◌+◌ 0 (rings_of (λ s m. (rules.ring_of (config_of g) (guarded raw) [] s m).ring.dropped))
  unfolding spans_dropped
  drops_are = min-eq_left (let q : sum_to (λ k. (ring_of chain.machine.state.notes.log k).dropped) 12 ≤ 2 ^ 64 - 1 = omega (arith, few) in q) ∙ sum_is

  report_is : report_in chain.machine.state chain.machine.spans (unusable raw) ≡ report_by (config_of g) raw
  unfolding report_in report_by
  report_is =
      λ i.
      record {
        replaced = unusable raw;
        seen = (by.seen ∙ ap length brought_is) i;
        final = (by.count ∙ ap length (by.released ∙ ap (rules.released (config_of g)) brought_is)) i;
        held = (by.held ∙ ap (rules.held_of (config_of g)) brought_is) i;
        rings =
            ring_shown impulse Repaired (omega arith) i ∷ ring_shown impulse Flagged (omega arith) i ∷ ring_shown impulse Corrected
            (omega arith) i ∷ ring_shown impulse Uncertain (omega arith) i
            ∷ ring_shown dc Repaired (omega arith) i ∷ ring_shown dc Flagged (omega arith) i ∷ ring_shown dc Corrected (omega arith) i ∷ ring_shown dc Uncertain
            (omega arith) i
            ∷ ring_shown iq Repaired (omega arith) i ∷ ring_shown iq Flagged (omega arith) i ∷ ring_shown iq Corrected (omega arith) i ∷ ring_shown iq Uncertain
            (omega arith) i
            ∷ [];
        dropped_spans = drops_are i;
        dropped_repairs = (ap (λ (x : log.Ring). x.dropped) (by.repairs ∙ ap (rules.repair_ring (config_of g)) brought_is)) i;
        level = (by.level ∙ ap (rules.dc_level (config_of g)) brought_is) i;
        settled = by.settled i;
      }

-- ---- a block

module _ (g : ConditioningConfig) (f : Fit g) where
  abbrev some : 0 < g.spans
  some = f.limits.some_spans

  module _ (raw : List ℕ) (r : Reached g (guarded raw) []) (b : Block) (t : Fits b) where
    abbrev machine : Machine
    machine = (chain_at g (guarded raw) []).machine

    abbrev words : List ℕ
    words = words_in b.bytes

    held_few : machine.state.counts.held ≤ lookahead_size
    held_few = at_few g f (guarded raw) [] r

    held_all : held_in machine.state b.store ≡ machine.state.counts.held
    held_all = omega (arith, held_few, t.room)

    -- there is room for all its samples
    new_all : new_words machine.state b.bytes b.store ≡ words_in b.bytes
    unfolding new_words
    new_all =
        let n : new_many machine.state b.bytes b.store ≡ length b.bytes / sample_size = omega (arith, held_few, t.room, t.most) in
        ap (λ (k : ℕ). take k words) n ∙ take_all (length b.bytes / sample_size) words (omega (arith, words_many b.bytes))

    abbrev part : List ℕ
    part = slice machine.state b.bytes b.store

    held_in_lem : machine.state.counts.held ≤ length (slice machine.state b.bytes b.store)
    held_in_lem = omega (arith, held_all, slice_long machine.state b.bytes b.store _ _ refl refl)

    new_part_lem : new_part machine.state (slice machine.state b.bytes b.store) ≡ guarded (words_in b.bytes)
    new_part_lem = feeding.new_part_lem machine.state b.bytes b.store _ _ refl refl (omega (arith, held_all)) ∙ ap guarded new_all

    all_usable : Usable (new_part machine.state (slice machine.state b.bytes b.store))
    all_usable = subst Usable (sym new_part_lem) (guarded_usable words)

    new_count : length (new_part machine.state (slice machine.state b.bytes b.store)) ≡ length (words_in b.bytes)
    new_count = ap length new_part_lem ∙ guarded_count words

    -- up to 2^48 samples in all the chain goes on with them
    fed_on : length raw + length (words_in b.bytes) ≤ total_limit
        → (fed (chain_at g (guarded raw) []).machine b.bytes b.store
        ≡ taken_block (chain_at g (guarded raw) []).machine b.bytes b.store
        (taken (chain_at g (guarded raw) []).machine (slice machine.state b.bytes b.store)))
        × ((process (chain_at g (guarded raw) []).machine (new_part machine.state (slice machine.state b.bytes b.store))
        ≡ (chain_at g (guarded (raw ++ words_in b.bytes)) []).machine)
        × Reached g (guarded (raw ++ words_in b.bytes)) [])
    fed_on h =
        let none = call_accepted g f (guarded raw) [] r part held_in_lem all_usable (omega (arith, guarded_count raw, new_count, h)) in
        let joined : guarded raw ++ new_part machine.state part ≡ guarded (raw ++ words) = ap (λ (l : List ℕ). guarded raw ++ l) new_part_lem
        ∙ sym (guarded_append raw words) in (
          fed_taken machine.state b.bytes b.store _ _ refl refl machine.spans machine.repairs
              (taken_by machine.state part machine.spans machine.repairs none),
          (
            machine_more g some (guarded raw) (new_part machine.state part) [] ∙ ap (λ (l : List ℕ). (chain_at g l []).machine) joined,
            record {
              usable = guarded_usable (raw ++ words);
              few = omega (arith, guarded_count (raw ++ words), length-append raw words, h);
              order =
                  tt;
              watching = λ e. refl;
            },
          ),
        )

    -- and above that it meets number 8
    fed_beyond : total_limit < length raw + length (words_in b.bytes)
        → (fed (chain_at g (guarded raw) []).machine b.bytes b.store).said ≡ refused (8 ∷ [])
    unfolding returned
    fed_beyond h =
        let eight = call_beyond g f (guarded raw) [] r part held_in_lem all_usable (omega (arith, guarded_count raw, new_count, h)) in
        fed_said machine b.bytes b.store
        ∙ ap (λ (o : Outcome). o.said) (declined_by machine.state part machine.spans machine.repairs 8 eight refl)

  -- ---- all blocks

  -- a block that is followed by another holds whole samples
  blocks_append : (b : Block) (bs : List Block) → Read (b ∷ bs) → words_in (joined (b ∷ bs)) ≡ words_in b.bytes ++ words_in (joined bs)
  blocks_append b [] t = ap words_in (append-nil b.bytes) ∙ sym (append-nil (words_in b.bytes))
      ∙ ap (λ (l : List ℕ). words_in b.bytes ++ l) (sym no_words)
  blocks_append b (c ∷ bs) t = words_append b.bytes (joined (c ∷ bs)) 8192 t.1.0

  first_fits : (b : Block) (bs : List Block) → Read (b ∷ bs) → Fits b × Read bs
  first_fits b [] t = (t, tt)
  first_fits b (c ∷ bs) t = (t.0, t.1.1)

  abbrev told : List ℕ → List ℕ
  told raw = text_unless (first_of (too_many 0 (length raw) ∷ [])) (report_text (report_by (config_of g) raw))

  total_fits : (raw : List ℕ) → length raw ≤ total_limit → told raw ≡ report_text (report_by (config_of g) raw)
  unfolding first_of
  total_fits raw h = ap (λ (b : Bool). text_unless (cond b 8 0) (report_text (report_by (config_of g) raw))) (le-ltb total_limit (0 + length raw) (omega arith))

  total_beyond : (raw : List ℕ) → total_limit < length raw → told raw ≡ refused_text 8
  unfolding first_of
  total_beyond raw h = ap (λ (b : Bool). text_unless (cond b 8 0) (report_text (report_by (config_of g) raw))) (lt-ltb total_limit (0 + length raw) (omega arith))

  played_is : (raw : List ℕ) → Reached g (guarded raw) [] → (bs : List Block) → Read bs
      → played (chain_at g (guarded raw) []).machine (unusable raw) bs ≡ told (raw ++ words_in (joined bs))
  unfolding played
  played_is raw r [] t =
      ap report_text (report_is g f raw r)
      ∙ sym (total_fits raw (omega (arith, guarded_count raw, r.few)))
      ∙ ap told (sym (ap (λ (l : List ℕ). raw ++ l) no_words ∙ append-nil raw))
  played_is raw r (b ∷ bs) t =
      go (λ w. played_is (raw ++ words_in b.bytes) w bs (first_fits b bs t).1) (dec_lt total_limit (length raw + length (words_in b.bytes)))
    where
      fits : Fits b
      fits = (first_fits b bs t).0

      all_is : raw ++ words_in (joined (b ∷ bs)) ≡ (raw ++ words_in b.bytes) ++ words_in (joined bs)
      all_is = ap (λ (l : List ℕ). raw ++ l) (blocks_append b bs t) ∙ sym (append_assoc raw (words_in b.bytes) (words_in (joined bs)))

      go : (Reached g (guarded (raw ++ words_in b.bytes)) []
          → played (chain_at g (guarded (raw ++ words_in b.bytes)) []).machine (unusable (raw ++ words_in b.bytes)) bs
          ≡ told ((raw ++ words_in b.bytes) ++ words_in (joined bs)))
          → Dec (total_limit < length raw + length (words_in b.bytes))
          → played (chain_at g (guarded raw) []).machine (unusable raw) (b ∷ bs) ≡ told (raw ++ words_in (joined (b ∷ bs)))
      go rest (yes h) =
          let o = fed (chain_at g (guarded raw) []).machine b.bytes b.store in
          ap (λ (s : Said ℕ). after_call s (played o.machine (unusable raw + o.replaced) bs)) (fed_beyond raw r b fits h)
          ∙ sym (ap told all_is
          ∙ total_beyond ((raw ++ words_in b.bytes) ++ words_in (joined bs))
          (omega (arith, length-append raw (words_in b.bytes), length-append (raw ++ words_in b.bytes) (words_in (joined bs)), h)))
      go rest (no h) =
          let on = fed_on raw r b fits (omega arith) in
          (λ i. after_call (on.0 i).said (played (on.0 i).machine (unusable raw + (on.0 i).replaced) bs))
          ∙ (λ i. played (on.1.0 i)
          ((ap (λ (l : List ℕ). unusable raw + unusable l) (new_all raw r b fits) ∙ sym (unusable_append raw (words_in b.bytes))) i) bs)
          ∙ rest on.1.1
          ∙ ap told (sym all_is)

-- ---- a chain that was made

module _ (g : ConditioningConfig) (spans repairs : List ℕ) (words : List Float)
    (e : making_said (config_of g) (length spans) (length repairs) (length words) ≡ made) where
  abbrev fit : Fit g
  fit = (made_fit g (length spans) (length repairs) (length words) e).fit

  made_text_lem : (bs : List Block) → Read bs → played (made_chain g spans repairs words).machine 0 bs ≡ told g fit (words_in (joined bs))
  unfolding guarded unusable
  made_text_lem bs t =
      let z : Reached g [] [] = record { usable = tt; few = omega arith; order = tt; watching = λ q. refl } in
      ap (λ (y : Chain). played y.machine 0 bs) (made_is g spans repairs words e ∙ fresh_is g fit.limits.some_spans) ∙ played_is g fit [] z bs t

-- ---- THE THEOREM

-- a header of fewer than 49 bytes is all there is
module _ (head : List ℕ) (bs : List Block) (most : length head ≤ header_size) (short : length head < header_size → joined bs ≡ []) (t : Read bs) where
  -- a header that fits is a whole one
  whole_header : header_fits head ≡ true → length head ≡ header_size
  whole_header e = go (dec_lt (length head) 49)
    where
      go : Dec (length head < 49) → length head ≡ header_size
      go (yes h) = let z : ◌≡◌ {A = ℕ} 0 1 = ap (λ (b : Bool). cond b 0 1) (sym e ∙ too_short head h) in absurd (omega (arith, z))
      go (no h) = omega arith

  bad_input : header_fits head ≡ false → header_fits (head ++ joined bs) ≡ false
  bad_input e = go (dec_lt (length head) 49)
    where
      go : Dec (length head < 49) → header_fits (head ++ joined bs) ≡ false
      go (yes h) = too_short (head ++ joined bs) (omega (arith, length-append head (joined bs), ap length (short h), h))
      go (no h) = same_fits head (joined bs) (omega arith) ∙ e

  module _ (e : header_fits head ≡ true) where
    fits : header_fits (head ++ joined bs) ≡ true
    fits = same_fits head (joined bs) (whole_header e) ∙ e

    -- the last block tells whether the recording ends in a broken sample
    same_refusal : tail_refusal (last_bytes bs) ≡ input_refusal (head ++ joined bs)
    same_refusal =
        tail_by (last_bytes bs) (joined bs) (same_tail bs t)
        ∙ sym (good_header (head ++ joined bs) fits ∙ ap tail_refusal (behind_header head (joined bs) (whole_header e)))

  module _ (spans repairs : List ℕ) (words : List Float) (a : length spans ≡ 6144) (b : length repairs ≡ 6144) (d : length words ≡ 32) where
    abbrev g : ConditioningConfig
    g = config_from (config_in head)

    abbrev ruled : ℕ → List ℕ
    ruled k = text_unless k (played_text (config_in (head ++ joined bs)) (samples_in (head ++ joined bs)))

    -- making's answers
    made_by_lem : (all : Bool) (k : ℕ) → all_off (config_in head) ≡ all → refusal (config_in head) (length spans) (length repairs) (length words) ≡ k
        → let s = cond {A = making.Said} all nothing (numbered k) in
        answered_by s (played (machine_of (fresh_state (config_from (config_in head))) (made_words 0 s spans) (made_words 0 s repairs)) 0 bs)
        ≡ cond all off_text
        (text_unless k (text_unless (first_of (too_many 0 (length (words_in (joined bs))) ∷ [])) (report_text (report_by (config_in head) (words_in (joined bs))))))
    unfolding making_said made_chain
    made_by_lem true k p q = refl
    made_by_lem false (suc k) p q = refl
    made_by_lem false zero p q =
        let c = config_again (config_in head) in
        let e : making_said (config_of g) (length spans) (length repairs) (length words) ≡ made =
        ap (λ (x : Config). making_said x (length spans) (length repairs) (length words)) c ∙ (λ i. cond (p i) nothing (numbered (q i))) in
        (λ i. played (machine_of (fresh_state g) (made_words 0 (sym e i) spans) (made_words 0 (sym e i) repairs)) 0 bs)
        ∙ made_text_lem g spans repairs words e bs t
        ∙ ap (λ (x : Config). text_unless (first_of (too_many 0 (length (words_in (joined bs))) ∷ [])) (report_text (report_by x (words_in (joined bs))))) c

    -- a header that fits: what the start and the blocks answer
    started_is : header_fits head ≡ true → started_text head bs spans repairs words ≡ played_text (config_in (head ++ joined bs)) (samples_in (head ++ joined bs))
    unfolding start_said start_state making_said
    started_is e =
        let l = whole_header e in
        (λ i. let header = said_where head true e i in let s = made_by header (length spans) (length repairs) (length words) in
        answered_by s (played (machine_of (fresh_state (config_by header)) (made_words 0 s spans) (made_words 0 s repairs)) 0 bs))
        ∙ made_by_lem (all_off (config_in head)) (refusal (config_in head) (length spans) (length repairs) (length words)) refl refl
        ∙ (λ i. cond (all_off (config_in head)) off_text
        (text_unless (refusal (config_in head) (a i) (b i) (d i))
        (text_unless (first_of (too_many 0 (length (words_in (joined bs))) ∷ [])) (report_text (report_by (config_in head) (words_in (joined bs)))))))
        ∙ (λ i. played_text (sym (same_config head (joined bs) l) i) (words_in (sym (behind_header head (joined bs) l) i)))

    -- 17 by the last block comes before that
    ended_is : header_fits head ≡ true → ended_text head bs spans repairs words ≡ ruled (input_refusal (head ++ joined bs))
    ended_is e = λ i. text_unless (same_refusal e i) (started_is e i)

    -- what is printed is what the rules give for the whole recording
    pub replay_is : replayed head bs spans repairs words ≡ printed (head ++ joined bs)
    unfolding replayed printed
    replay_is = go (header_fits head) refl
      where
        go : (b : Bool) → header_fits head ≡ b → replayed head bs spans repairs words ≡ printed (head ++ joined bs)
        go true e = ap (λ (s : header.Said). text_unless (header_number s) (ended_text head bs spans repairs words)) (said_where head true e) ∙ ended_is e
        go false e =
            ap (λ (s : header.Said). text_unless (header_number s) (ended_text head bs spans repairs words)) (said_where head false e)
            ∙ sym (ap ruled (bad_header_lem (head ++ joined bs) (bad_input e)))
