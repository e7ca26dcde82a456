-- The words of a batch carried out one after the other, each write taking the next B bytes of the incoming ones: together they are a
-- run of the machine over entries.
use Rattle.std.specs.Prelude.{ℕ, suc, ◌+◌, ◌*◌, ◌≤◌, ◌<◌, ◌≡◌, refl, not, List, [], ◌∷◌, ◌++◌, map, length, take, drop, get_or, T}
use Rattle.std.proofs.Common.{zero-mul, add-mul, add-one, arith, sym, ◌∙◌, append-nil, append_assoc, drop-drop, take-suc}
use Rattle.std.proofs.Math.Path.{ap, subst}
use Rattle.basics.specs.Basics.{All, total}
use Rattle.words.specs.Links.{links_changed}
use Rattle.settings.specs.declared.Settings.{Settings}
use Rattle.settings.specs.Buckets.{directory_length}
use Rattle.stack.specs.Stack.{Work, Answer, Step, halved}
use Rattle.stack.specs.Batch.{work, is_write, how_many, Ran, run}
use Rattle.stack.specs.Entries.{Cache, entry_step, Picks}
use Rattle.promises.specs.Promises.{is_still}
use Rattle.promises.specs.Demand3.{Memory}
use Rattle.cache_steps.specs.Carried.{cache_of, settings_of, Ready, Carried}

-- ---- words one after the other

pub data Chain (B : ℕ) : Memory → List Work → List ℕ → Memory → List Answer → List ℕ → Type 0 where
  end : {m : Memory} {incoming : List ℕ} → Chain B m [] incoming m [] []
  next : {m m₁ m₂ : Memory} {w : Work} {ws : List Work} {incoming : List ℕ} {a : Answer} {answers : List Answer} {g given : List ℕ}
      → Carried m w (take B incoming) m₁ a g
      → Chain B m₁ ws (drop (is_write w * B) incoming) m₂ answers given
      → Chain B m (w ∷ ws) incoming m₂ (a ∷ answers) (g ++ given)

-- One more word at the end, as a loop from the left goes.
pub snoc : {B : ℕ} {m m₁ m₂ : Memory} {ws : List Work} {w : Work} {incoming : List ℕ} {a : Answer} {answers : List Answer} {g given : List ℕ}
    → Chain B m ws incoming m₁ answers given → Carried m₁ w (take B (drop (how_many is_write ws * B) incoming)) m₂ a g
    → Chain B m (ws ++ (w ∷ [])) incoming m₂ (answers ++ (a ∷ [])) (given ++ g)
unfolding total
snoc {B} {m₂ = after} {w = w} {a = a} {g = g} (end {m = m} {incoming = incoming}) c =
    subst (λ t. Chain B m (w ∷ []) incoming after (a ∷ []) t) (append-nil g) (next (rw zero-mul at c) end)
snoc {B} {m₂ = after} {w = w} {a = a} {g = g} (next {m₂ = m} {w = w₀} {ws = ws} {incoming = incoming} {g = g₀} {given = given} c₀ rest) c =
    let c' : Carried m w (take B (drop (how_many is_write ws * B) (drop (is_write w₀ * B) incoming))) after a g =
    rw (drop-drop (how_many is_write ws * B) (is_write w₀ * B) incoming, ← add-mul) c in
    rw (append_assoc g₀ given g) (next c₀ (snoc rest c'))

-- over the words of a batch
pub snoc_word : {B : ℕ} {m m₁ m₂ : Memory} {incoming : List ℕ} {a : Answer} {answers : List Answer} {g given : List ℕ} (s : Settings) (words : List ℕ)
    (i : ℕ) → i < length words
    → Chain B m (map (work s) (take i words)) incoming m₁ answers given
    → Carried m₁ (work s (get_or words i 0)) (take B (drop (how_many is_write (map (work s) (take i words)) * B) incoming)) m₂ a g
    → Chain B m (map (work s) (take (i + 1) words)) incoming m₂ (answers ++ (a ∷ [])) (given ++ g)
snoc_word s words i h chain c = rw (add-one i, take-suc words i 0 h, map_snoc (work s) (take i words) (get_or words i 0)) (snoc chain c)
  where
    map_snoc : (f : ℕ → Work) (xs : List ℕ) (x : ℕ) → map f (xs ++ (x ∷ [])) ≡ map f xs ++ (f x ∷ [])
    map_snoc f [] x = refl
    map_snoc f (y ∷ xs) x = ap (λ t. f y ∷ t) (map_snoc f xs x)

-- ---- what they come to

pub record AllCarried (B : ℕ) (before : Memory) (ws : List Work) (incoming : List ℕ) (after : Memory) (answers : List Answer) (given : List ℕ) : Type
    0 where
  pub picked : List (Work × ℕ)
  pub words_picked : map (λ wp. wp.0) picked ≡ ws
  pub picks : Picks B (cache_of before) picked incoming
  pub run_is : run entry_step (λ wp. wp.0) B (cache_of before) picked incoming ≡ record { after = cache_of after; answers = answers; outgoing = given }
  pub settings_kept : settings_of after ≡ settings_of before
  pub words_past : drop (directory_length (settings_of before)) after.directory ≡ drop (directory_length (settings_of before)) before.directory
  pub bytes_past : drop ((settings_of before).n * (settings_of before).b) after.bytes ≡ drop ((settings_of before).n * (settings_of before).b)
      before.bytes
  pub bytes_same : length after.bytes ≡ length before.bytes
  pub store_same : length after.store ≡ length before.store
  -- one word alone
  pub links_few : (w : Work) → ws ≡ w ∷ [] → All (λ a. T (not (halved a))) answers → links_changed before.directory after.directory ≤ 20
  pub links_none : (w : Work) → ws ≡ w ∷ [] → T (is_still w) → links_changed before.directory after.directory ≡ 0

pub chain_ready : {B : ℕ} {m m₁ : Memory} {ws : List Work} {incoming : List ℕ} {answers : List Answer} {given : List ℕ}
    → Chain B m ws incoming m₁ answers given → Ready m → Ready m₁
chain_ready end r = r
chain_ready (next c rest) r = chain_ready rest c.ready

-- no words leave what was there, answer nothing and give nothing
pub none_carried : {B : ℕ} {m m₁ : Memory} {ws : List Work} {incoming : List ℕ} {answers : List Answer} {given : List ℕ}
    → Chain B m ws incoming m₁ answers given → ws ≡ [] → (m ≡ m₁) × (answers ≡ []) × (given ≡ [])
none_carried end e = (refl, refl, refl)
none_carried (next c rest) e = let z : ◌≡◌ {A = ℕ} 0 1 = cc in absurd (omega arith)

pub chain_answers : {B : ℕ} {m m₁ : Memory} {ws : List Work} {incoming : List ℕ} {answers : List Answer} {given : List ℕ}
    → Chain B m ws incoming m₁ answers given → length answers ≡ length ws
chain_answers end = refl
chain_answers (next c rest) = ap suc (chain_answers rest)

-- one word, then the rest of them
abbrev joined : Step Cache → Ran Cache → Ran Cache
joined now r = record { after = r.after; answers = now.answer ∷ r.answers; outgoing = now.given ++ r.outgoing }

module _ (B : ℕ) (incoming : List ℕ) {m m₁ m₂ : Memory} {w : Work} {ws : List Work} {a : Answer} {answers : List Answer} {g given : List ℕ}
    (c : Carried m w (take B incoming) m₁ a g) (only : ws ≡ [] → m₁ ≡ m₂) (rest : AllCarried B m₁ ws (drop (is_write w * B) incoming) m₂ answers given)
  where
    abbrev later : List ℕ
    later = drop (is_write w * B) incoming

    all_few : (w₀ : Work) → w ∷ ws ≡ w₀ ∷ [] → All (λ x. T (not (halved x))) (a ∷ answers) → links_changed m.directory m₂.directory ≤ 20
    all_few w₀ e calm =
        let none : ws ≡ [] = cc in
        subst (λ x. links_changed m.directory x.directory ≤ 20) (only none) (c.links.few calm.0)

    all_none : (w₀ : Work) → w ∷ ws ≡ w₀ ∷ [] → T (is_still w₀) → links_changed m.directory m₂.directory ≡ 0
    all_none w₀ e still =
        let none : ws ≡ [] = cc in
        let same : w ≡ w₀ = cc in
        subst (λ x. links_changed m.directory x.directory ≡ 0) (only none) (c.links.none (subst (λ x. T (is_still x)) (sym same) still))

    all_next : AllCarried B m (w ∷ ws) incoming m₂ (a ∷ answers) (g ++ given)
    unfolding run
    all_next =
        record {
          picked = (w, c.pick) ∷ rest.picked;
          words_picked = ap (λ t. w ∷ t) rest.words_picked;
          picks = (c.picked, subst (λ (t : Step Cache). Picks B t.after rest.picked later) (sym c.step_is) rest.picks);
          run_is =
              ap (λ (now : Step Cache). joined now (run entry_step (λ wp. wp.0) B now.after rest.picked later)) c.step_is
              ∙ ap (joined (record { after = cache_of m₁; answer = a; given = g })) rest.run_is;
          settings_kept = rest.settings_kept ∙ c.settings_kept;
          words_past = rw c.settings_kept at rest.words_past ∙ c.words_past;
          bytes_past = rw c.settings_kept at rest.bytes_past ∙ c.bytes_past;
          bytes_same = rest.bytes_same ∙ c.bytes_same;
          store_same = rest.store_same ∙ c.store_same;
          links_few = all_few;
          links_none = all_none;
        }

pub all_carried : {B : ℕ} {m m₁ : Memory} {ws : List Work} {incoming : List ℕ} {answers : List Answer} {given : List ℕ}
    → Chain B m ws incoming m₁ answers given → AllCarried B m ws incoming m₁ answers given
unfolding run
all_carried end =
    record {
      picked = [];
      words_picked = refl;
      picks = tt;
      run_is = refl;
      settings_kept = refl;
      words_past = refl;
      bytes_past = refl;
      bytes_same = refl;
      store_same = refl;
      links_few = λ w e calm. let z : ◌≡◌ {A = ℕ} 0 1 = cc in absurd (omega arith);
      links_none = λ w e still. let z : ◌≡◌ {A = ℕ} 0 1 = cc in absurd (omega arith);
    }
all_carried {B} {incoming = incoming} (next c rest) = all_next B incoming c (λ e. (none_carried rest e).0) (all_carried rest)
