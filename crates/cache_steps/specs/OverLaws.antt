-- A buffer whose front was written, one more piece at a time.
use Rattle.std.specs.Prelude.{ℕ, suc, ◌+◌, ◌*◌, ◌<◌, ◌≡◌, List, [], ◌∷◌, ◌++◌, length, drop, set}
use Rattle.std.proofs.Common.{arith, sym, ap, ap₂, ◌∙◌, length-append, drop-cons, drop-drop, take_at}
use Rattle.std.proofs.Math.Seq.{append_snoc, drop-append-add, set-append_seam}
use Rattle.basics.specs.Basics.{put_block}
use Rattle.promises.specs.Promises.{over}

-- the next word, as an answer is stored
pub over_set : (front buffer : List ℕ) (x : ℕ) → length front < length buffer
    → set (over front buffer) (length front) x ≡ over (front ++ (x ∷ [])) buffer
over_set front buffer x h =
    ap (λ t. set (front ++ t) (length front) x) (drop-cons buffer (length front) 0 h)
    ∙ set-append_seam front _ (drop (suc (length front)) buffer) x
    ∙ sym (append_snoc front x (drop (suc (length front)) buffer))
    ∙ ap (λ n. front ++ (x ∷ []) ++ drop n buffer) (let e : suc (length front) ≡ length (front ++ (x ∷ [])) =
    omega (arith, length-append front (x ∷ [])) in e)

-- the next block, as a read gives it
pub over_put : (B i : ℕ) (front bytes buffer : List ℕ) → length front ≡ i * B → length bytes ≡ B
    → put_block B i bytes (over front buffer) ≡ over (front ++ bytes) buffer
over_put B i front bytes buffer e g =
    let rest = drop (length front) buffer in
    let ends : i * B + B ≡ length front + length bytes = omega arith in
    ap₂ (λ a b. a ++ bytes ++ b)
    (take_at front rest (i * B) e)
    (ap (λ n. drop n (front ++ rest)) ends ∙ drop-append-add front rest (length bytes) ∙ drop-drop (length bytes) (length front) buffer
    ∙ ap (λ n. drop n buffer) (sym (length-append front bytes)))
