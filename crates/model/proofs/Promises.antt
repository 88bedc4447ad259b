-- What each entry promises of a call follows from the equation with its definition. Assumes nothing.
use Rattle.integers.proofs.Prelude.{◌≡◌, refl, sym, ap, ap₂, subst, ◌∙◌, Bool, true, false, not, ◌||◌, List, [], ◌∷◌, ◌++◌, map, ℕ, zero, suc, ◌*◌, ◌≤◌, ◌<◌}
use Rattle.integers.proofs.Prelude.{not-false, ltb, ℤ, pos, length, get_or, take}
use lib.Ieee.{Float, nan}
use Rattle.lists.specs.Entries.{some}
use Rattle.lists.specs.Tabulated.{written}
use Rattle.lists.proofs.Tabulated.{over_in, over_map, take_written}
use Rattle.lists.proofs.Entries.{some_at, each_weaker}
use Rattle.model.specs.declared.Settings.{Settings}
use Rattle.model.specs.declared.Channel.{Channel}
use Rattle.model.specs.Causes.{short}
use Rattle.model.specs.Code.{Code, triples, variables}
use Rattle.model.specs.Records.{code_of, judge, record_causes}
use Rattle.model.specs.RecordClaims.{Bytes}
use Rattle.model.specs.Sound.{Sound}
use Rattle.model.specs.Iteration.{at}
use Rattle.model.specs.Words.{first_odd, Outcome}
use Rattle.model.specs.Points.{Bits, Codeword, point_of}
use Rattle.model.specs.Reflection.{reflect, sum_of_words}
use Rattle.model.specs.Channel.{finite, in_range, product, cost_of}
use Rattle.model.specs.Calls.{unequal, forbidden, not_binary, ReaderAnswer, reader, Split, splitter_causes, splitter, word_causes, codeword_test}
use Rattle.model.specs.Calls.{Extended, extension_causes, extension, Lists, Decoded, lacks_room, decoder_cause, decoder, Costs, front_causes, channel_front, reflector_causes, reflector}
use Rattle.model.specs.Order.{odd_causes, Ordered, one_to_nine}
use Rattle.model.specs.Told.{Refuses}
use Rattle.model.specs.ChannelClaims.{Costed, of_singles}
use Rattle.model.specs.WordClaims.{PointOf}
use Rattle.model.specs.Composition.{word_of_zeros, sum_of_all, Added, adder_causes, adder, Link, Links, words_of, handed_on}
use Rattle.model.specs.DecoderClaims.{Refused, Ran, Iterated, Bounded, AsBefore, Small, ReflectedCalls}
use Rattle.model.specs.Promises.{ReaderCall, SplitterCall, FrontCall, ReflectorCall, AdderCall, TestCall, ExtensionCall, DecoderCall}
use Rattle.model.proofs.Causes.{stays, clear, unless}
use Rattle.model.proofs.Accepted as Accepted
use Rattle.model.proofs.BaseCodes.{as_in_base}
use Rattle.model.proofs.Order.{listed, whole, follow, ordered, refuses, after_records, records_ordered, word_order}
use Rattle.model.proofs.RecordClaims.{record_claims}
use Rattle.model.proofs.WordClaims.{splits, point_claims}
use Rattle.model.proofs.WordCalls.{answer_odd, answer_place, none_listed, test_is, test_exactly}
use Rattle.model.proofs.WordCalls.{no_room, room_listed, extension_is, extension_exactly, point_taken}
use Rattle.model.proofs.Points.{points}
use Rattle.model.proofs.ChannelClaims.{channel_claims, negated_call}
use Rattle.model.proofs.PaperSystem.{published}
use Rattle.model.proofs.Demand3 as Demand3
use Rattle.model.proofs.DecoderCalls as Calls
use Rattle.model.proofs.Courses.{iterated}
use Rattle.model.proofs.BoundedCalls.{bounded}
use Rattle.model.proofs.Composition.{zero_bits, length_sum, sums, composes, sum_codeword, extends, all_codewords}
use Rattle.model.proofs.ComposedCalls.{links_words, reflector_is, reflector_took, reflected_taken, composed_calls, chain_bits, chain_handed, adder_exactly}
use Rattle.model.proofs.ReflectedCalls.{reflected_calls}

-- ---- the reader
pub reader_call : (b : List ℕ) (a : ReaderAnswer) → Bytes b → a ≡ reader b → ReaderCall b a
unfolding reader
reader_call b a bytes meets = subst (ReaderCall b) (sym meets) (record {
  equation = refl;
  order = records_ordered b;
  follows = follow (whole b) refl;
  exactly = (
    λ h. (code_of b, record_claims.sound b h, sym (record_claims.records_back b bytes h)),
    λ k. subst (λ (s : List ℕ). judge s ≡ 0) (sym k.2) ((record_claims.accepted k.0).1 k.1),
  );
  refused = λ c h. rw h;
  read = λ h. rw h;
  base_code = as_in_base b;
})

-- the number of a refused code is a refusal's
pub code_refuses : (b : List ℕ) (c : ℕ) → judge b ≡ c → (c ≡ 0 → ⊥) → Refuses c
code_refuses b zero e h = absurd (h refl)
code_refuses b (suc c) e h = refuses (record_causes b) one_to_nine c refl (subst (Ordered (record_causes b) one_to_nine) e (records_ordered b))

-- ---- the splitting
pub splitter_call : (b ts cs : List ℕ) (a : Split) → a ≡ splitter b ts cs → SplitterCall b ts cs a
unfolding splitter
splitter_call b ts cs a meets =
    let T = one_to_nine ++ (10 ∷ []) in
    let none = short (3 * triples (code_of b)) ts || short (variables (code_of b)) cs in
    subst (SplitterCall b ts cs) (sym meets) (record {
      equation = refl;
      order = after_records (10 ∷ []) b _ _ (listed T ((10, none) ∷ []) refl) refl;
      follows = follow (whole b ++ ((10, none) ∷ [])) refl;
      refused = λ c h. rw h (refl, refl);
      split = λ h. rw h (refl, refl);
      splits = λ h. splits (code_of b) (Accepted.accepted b (clear (judge b ∷ splitter_causes (code_of b) ts cs) h).0);
      base_code = as_in_base b;
    })

-- ---- the channel front
module _ (setting : Channel) (samples : List Float) (old : List ℤ) (singles : of_singles setting ≡ true) where
  filled : (channel_front setting samples old).number ≡ 0 → (channel_front setting samples old).costs ≡ written (map (cost_of setting) samples) old
  unfolding channel_front
  filled h = rw h

  costed : (channel_front setting samples old).number ≡ 0 → (i : ℕ) → i < length samples
      → Costed (product setting (get_or samples i nan)) (at (written (map (cost_of setting) samples) old) i)
  unfolding channel_front
  costed h i l =
      let x = clear (front_causes setting samples old) h in
      let ranged : in_range setting ≡ true = not-false _ (unless 10 _ x.0) in
      let sample = get_or samples i nan in
      let sound : finite sample ≡ true = not-false _ (some_at (λ x. not (finite x)) samples i nan (unless 13 _ x.1.0) l) in
      rw (← over_map (cost_of setting) samples nan old, over_in (length samples) (λ i. cost_of setting (get_or samples i nan)) old i (pos 0) l)
      (channel_claims.costed setting sample singles ranged sound)

  pub front_call : (a : Costs) → a ≡ channel_front setting samples old → FrontCall setting samples old a
  unfolding channel_front
  front_call a meets =
      let T : List ℕ = 10 ∷ 11 ∷ 14 ∷ [] in
      let causes : List (ℕ × Bool) = (11, not (in_range setting)) ∷ (14, some (λ x. not (finite x)) samples) ∷ (10, short (length samples) old) ∷ [] in
      subst (FrontCall setting samples old) (sym meets) (record {
        equation = refl;
        order = ordered (front_causes setting samples old) T _ (listed T causes refl) refl;
        follows = follow causes refl;
        refused = λ c h. rw h;
        filled = filled;
        costed = λ h i l. rw (filled h) (costed h i l);
        negated = negated_call setting singles samples old;
      })

-- ---- the reflector
pub reflector_call : (costs : List ℤ) (w : List ℕ) (old : List ℤ) (a : Costs) → ((reflector costs w old).number ≡ 0 → Small costs) → a ≡ reflector costs w old
    → ReflectorCall costs w old a
unfolding reflector
reflector_call costs w old a small meets =
    let T : List ℕ = 10 ∷ 12 ∷ 13 ∷ 15 ∷ [] in
    let causes : List (ℕ × Bool)
    = (12, unequal w (length costs)) ∷ (13, some forbidden costs) ∷ (15, some not_binary w) ∷ (10, short (length costs) old) ∷ [] in
    let took = reflector_took costs w old in
    let taken : (reflector costs w old).number ≡ 0 → take (length costs) (reflector costs w old).costs ≡ reflect w costs
    = λ h. rw h (reflected_taken costs w old) in
    subst (ReflectorCall costs w old) (sym meets) (record {
      equation = refl;
      order = ordered (reflector_causes costs w old) T _ (listed T causes refl) refl;
      follows = follow causes refl;
      exactly = (λ h. (let x = took h in (small h, x.0, x.1)), λ t. ap (λ (x : Costs). x.number) (reflector_is costs w old t.0 t.1 t.2));
      refused = λ c h. rw h;
      reflected = λ h. rw h;
      composes = composes costs;
      composed = λ h u out c second. composed_calls costs (small h) w (took h).0 u out c (second ∙ ap (λ (x : List ℤ). reflector x u out) (taken h));
      chain = λ h l each u out c last.
          let links : List Link = record { word = w; lent = old } ∷ l in
          composed_calls costs (small h) (sum_of_all (length costs) (words_of links)) (chain_bits costs (small h) links (took h, each)) u out c
          (last ∙ ap (λ (x : List ℤ). reflector x u out) (chain_handed costs (small h) links (took h, each)));
      zero_word = λ h out room.
          reflector_is costs (word_of_zeros (length costs)) out (small h) (zero_bits (length costs)) room
          ∙ ap (λ (x : List ℤ). record { number = 0; costs = written x out }) (composes costs).zero_word;
    })

-- ---- the sum of two words
pub adder_call : (w u old : List ℕ) (a : Added) → a ≡ adder w u old → AdderCall w u old a
unfolding adder
adder_call w u old a meets =
    let T : List ℕ = 10 ∷ 12 ∷ 15 ∷ [] in
    let causes : List (ℕ × Bool) = (12, unequal u (length w)) ∷ (15, some not_binary w || some not_binary u) ∷ (10, short (length w) old) ∷ [] in
    subst (AdderCall w u old) (sym meets) (record {
      equation = refl;
      order = ordered (adder_causes w u old) T _ (listed T causes refl) refl;
      follows = follow causes refl;
      exactly = adder_exactly w u old;
      refused = λ c h. rw h;
      summed = λ h. rw h;
      taken = λ h. rw h (take_written (sum_of_words w u) old (length w) (length_sum w u));
      sums = sums (length w);
    })

-- ---- the codeword test and the extension
module _ (b w : List ℕ) where
  abbrev k : Code
  k = code_of b

  abbrev odd_there : Bool
  odd_there = ltb (first_odd k w) (length k.checks)

  pub test_call : (a : Outcome) → a ≡ codeword_test b w → TestCall b w a
  unfolding codeword_test
  test_call a meets =
      let T = one_to_nine ++ (12 ∷ 15 ∷ 17 ∷ []) in
      let causes : List (ℕ × Bool) = (12, unequal w k.bits) ∷ (15, some not_binary w) ∷ (17, odd_there) ∷ [] in
      subst (TestCall b w) (sym meets) (record {
        equation = refl;
        order = after_records (12 ∷ 15 ∷ 17 ∷ []) b (word_causes k.bits w ++ odd_causes k w) _
            (listed T causes refl) (word_order k w (judge b ∷ word_causes k.bits w));
        follows = follow (whole b ++ causes) refl;
        codeword = test_exactly b w;
        odd = answer_odd b w [] [] none_listed none_listed;
        place = answer_place b w [] [] none_listed none_listed;
        sum = λ h u g.
            let x = (test_exactly b w).0 h in
            test_is b (sum_of_words w u) x.0 (sum_codeword k w u x.1 ((test_exactly b u).0 g).1);
      })

  module _ (p : List ℕ) where
    pub extension_call : (a : Extended) → a ≡ extension b w p → ExtensionCall b w p a
    unfolding extension
    extension_call a meets =
        let T = one_to_nine ++ (10 ∷ 12 ∷ 15 ∷ 17 ∷ []) in
        let causes : List (ℕ × Bool) = (12, unequal w k.bits) ∷ (15, some not_binary w) ∷ (10, short (variables k) p) ∷ (17, odd_there) ∷ [] in
        let took = (extension_exactly b w p).0 in
        let sound : (extension b w p).outcome.number ≡ 0 → Sound k = λ h. Accepted.accepted b (took h).0 in
        subst (ExtensionCall b w p) (sym meets) (record {
          equation = refl;
          order = after_records (10 ∷ 12 ∷ 15 ∷ 17 ∷ []) b (extension_causes k w p ++ odd_causes k w) _
              (listed T causes refl) (word_order k w (judge b ∷ extension_causes k w p));
          follows = follow (whole b ++ causes) refl;
          codeword = extension_exactly b w p;
          filled = λ h. rw h;
          point = λ h. subst (PointOf k w) (point_taken b w p h) (point_claims k (sound h) w (took h).2);
          only = λ h x q f. (points k (sound h)).only w x q f ∙ point_taken b w p h;
          odd = answer_odd b w [] (no_room b p) none_listed (room_listed b p);
          place = answer_place b w [] (no_room b p) none_listed (room_listed b p);
          untouched = stays _ (written (point_of k w) p) p;
          extends = λ j. extends k (Accepted.accepted b j);
          sum = λ h u q c other g out space d third.
              let a = (took h).2 in
              let told = ap (λ (x : Extended). x.outcome.number) (sym other) ∙ g in
              let e = ((extension_exactly b u q).0 told).2 in
              third
              ∙ extension_is b (sum_of_words w u) out (took h).0 space (sum_codeword k w u a e)
              ∙ ap (λ (x : List ℕ). record { outcome = record { number = 0; place = 0 }; point = written x out })
              ((extends k (sound h)).sum w u a e
              ∙ ap₂ sum_of_words (point_taken b w p h) (point_taken b u q told ∙ ap (λ (x : Extended). take (variables k) x.point) (sym other)));
        })

-- ---- the decoder
module _ (b : List ℕ) (o : Settings) (costs : List ℤ) (l : Lists) (d : Decoded) (small : decoder_cause b o costs l ≡ 0 → Small costs)
    (meets : d ≡ decoder b o costs l) where
  reflected : decoder_cause b o costs l ≡ 0 → (w : List ℕ) → Codeword (code_of b) w → (m : Lists) → lacks_room (code_of b) m ≡ false
      → (e : Decoded) → e ≡ decoder b o (reflect w costs) m → ReflectedCalls b o costs w m d e
  reflected h w c m room e again = rw (meets, again) (reflected_calls b w o costs l m h (small h) room c)

  -- a chain is one reflection, by a codeword
  chain : decoder_cause b o costs l ≡ 0 → (c : List Link) → Links (Codeword (code_of b)) (length costs) c → (m : Lists) → lacks_room (code_of b) m ≡ false
      → (e : Decoded) → e ≡ decoder b o (handed_on costs c) m → ReflectedCalls b o costs (sum_of_all (code_of b).bits (words_of c)) m d e
  chain h c codewords m room e again =
      let k = code_of b in
      let n = length costs in
      let fits : n ≡ k.bits = Calls.costs_fit b o costs l h in
      let words : Links (Bits n) n c
      = each_weaker (λ x. Codeword k x.word × (n ≤ length x.lent)) (λ x. Bits n x.word × (n ≤ length x.lent)) (λ x q. (rw fits q.0.word, q.1)) c codewords in
      reflected h (sum_of_all k.bits (words_of c)) (all_codewords k (words_of c) (links_words (Codeword k) n c codewords)) m room e
      (again ∙ ap (λ (x : List ℤ). decoder b o x m)
      (chain_handed costs (small h) c words ∙ ap (λ (n : ℕ). reflect (sum_of_all n (words_of c)) costs) fits))

  -- the costs that the reflector wrote
  reflected_costs : (w : List ℕ) (old : List ℤ) (r : Costs) → ReflectorCall costs w old r → r.number ≡ 0 → take (length costs) r.costs ≡ reflect w costs
  reflected_costs w old r c h = ap (take (length costs)) (c.reflected h) ∙ reflected_taken costs w old

  pub decoder_call : DecoderCall b o costs l d
  decoder_call = record {
    equation = meets;
    order = rw meets (Calls.call_ordered b o costs l);
    follows = Calls.call_follows b o costs l;
    refused = λ c h. subst (Refused b o costs l) (sym meets) (Calls.refused b o costs l c h);
    ran = λ h. subst (Ran b o costs l) (sym meets) (Calls.ran b o costs l h);
    iterated = λ h. subst (Iterated b o costs l) (sym meets) (iterated b o costs l h);
    bounded = λ h. subst (Bounded b o costs) (sym meets) (bounded b o costs l h (small h));
    as_before = λ h. subst (AsBefore b o costs l) (sym meets) (Calls.as_before b o costs l h);
    base_code = as_in_base b;
    published = λ h. published b (Calls.sound b o costs l h) o costs (Calls.settings_allowed b o costs l h);
    demand_3 = Demand3.demand_3 b;
    reflected = reflected;
    chain = chain;
    end_to_end = λ ended w t test passed old r call done m room e again.
        reflected (Calls.ended_ran b o costs l d.answer.number (ap (λ (x : Decoded). x.answer.number) meets) ended) w (test.codeword.0 passed).1 m room e
        (again ∙ ap (λ (x : List ℤ). decoder b o x m) (reflected_costs w old r call done));
  }
