-- What is written for some transactions and one more, and what a front of it recovers to.
use Rattle.std.proofs.Common.{◌≡◌, ℕ, zero, suc, ◌+◌, ◌<◌, ◌≤◌, min, List, [], ◌∷◌, ◌++◌, length, take, subst, refl, sym, ap, ◌∙◌, append_assoc, append-nil, arith}
use Rattle.std.specs.List.{AllByRecursion}
use Rattle.std.proofs.lemmas.Grind.{flat_map-append}
use Rattle.std.proofs.lemmas.List.{length-append, length-take, take-append-le}
use Rattle.sha1.specs.Sha1.{sha1, digest_bytes}
use Rattle.kte_text.specs.Digests.{blob, digest_of}
use Rattle.kte_text.specs.Primitives.{after_all}
use Rattle.kte_text.specs.declared.primitive.Primitive.{Primitive}
use Rattle.kte_record.specs.Grammar.{version_bytes}
use Rattle.kte_record.specs.Transactions.{IsWritable, FitOneByOne, joined, piece, written, written_from}
use Rattle.kte_record.specs.Recovery.{Answers, AnswersBeside, Recovers, clean}
use Rattle.kte_record.proofs.WrittenCut.{written_cut, written_recovers}
use Rattle.kte_causes.specs.Faults.{last_count}
use Rattle.kte_causes.specs.Moments.{Moment}
use Rattle.kte_swap.specs.Guards.{IsFileOf, ImageRecovers, ImagesRecover}

length-sha1 : (message : List ℕ) → length (sha1 message) ≡ 20
unfolding sha1 digest_bytes
length-sha1 message = refl

pub length-digest : (bytes : List ℕ) → length (digest_of bytes) ≡ 20
length-digest bytes = length-sha1 (blob bytes)

written_from-push : (n : ℕ) (d : List ℕ) (ts : List (List Primitive)) (t : List Primitive)
    → written_from n d (ts ++ t ∷ []) ≡ written_from n d ts ++ piece (n + length ts) d t
written_from-push n d [] t = append-nil (piece n d t) ∙ ap (λ (k : ℕ). piece k d t) (omega arith)
written_from-push n d (u ∷ ts) t =
    ap (λ (l : List ℕ). piece n d u ++ l)
    (written_from-push (suc n) d ts t ∙ ap (λ (k : ℕ). written_from (suc n) d ts ++ piece k d t) (omega arith))
    ∙ sym (append_assoc (piece n d u) (written_from (suc n) d ts) (piece (n + length (u ∷ ts)) d t))

-- the count of transactions is right up to its last value, and only whether it is 0 matters
piece-counted : (count n : ℕ) (d : List ℕ) (t : List Primitive) → count ≡ min n last_count → piece count d t ≡ piece n d t
piece-counted zero zero d t e = refl
piece-counted (suc k) zero d t e = absurd (omega (arith, e))
piece-counted zero (suc n) d t e = absurd (omega (arith, e))
piece-counted (suc k) (suc n) d t e = refl

pub written-push : (count : ℕ) (d : List ℕ) (ts : List (List Primitive)) (t : List Primitive) → count ≡ min (length ts) last_count
    → written d (ts ++ t ∷ []) ≡ written d ts ++ piece count d t
written-push count d ts t e =
    written_from-push 0 d ts t
    ∙ ap (λ (l : List ℕ). written d ts ++ l) (ap (λ (k : ℕ). piece k d t) (omega arith) ∙ sym (piece-counted count (length ts) d t e))

pub joined-push : (ts : List (List Primitive)) (t : List Primitive) → joined (ts ++ t ∷ []) ≡ joined ts ++ t
joined-push ts t =
    flat_map-append (λ (u : List Primitive). u) ts (t ∷ []) ∙ ap (λ (l : List Primitive). joined ts ++ l) (append-nil t)

image_recovers : (text : List (List ℕ)) (ts : List (List Primitive)) (moment : Moment) (rest : List ℕ) (cut : ℕ)
    → IsFileOf moment.saved text → AllByRecursion IsWritable (joined ts) → FitOneByOne (joined ts) text
    → written (digest_of moment.saved) ts ≡ moment.swap ++ rest → moment.synced ≤ cut → cut ≤ length moment.swap
    → ImageRecovers text ts moment moment.saved (take cut moment.swap)
image_recovers text ts moment rest cut file writable fit front synced within =
    let d = digest_of moment.saved in
    let whole : length (written d ts) ≡ length moment.swap + length rest = ap length front ∙ length-append moment.swap rest in
    let c = written_cut ts d text cut (length-digest moment.saved) writable fit (omega (arith, whole, within)) in
    let bytes : take cut (written d ts) ≡ take cut moment.swap =
    ap (λ (l : List ℕ). take cut l) front ∙ take-append-le cut moment.swap rest within in
    let long : length (take cut moment.swap) ≡ cut = length-take cut moment.swap ∙ omega (arith, within) in
    record {
      file = file;
      count = c.count;
      most = c.most;
      whole = omega (arith, c.whole, long);
      least = λ j few h. c.least j few (omega (arith, h, long));
      synced = λ j few h. c.least j few (omega (arith, h, synced));
      recovers = subst (λ (l : List ℕ). Recovers text d l (after_all (joined (take c.count ts)) text)) bytes c.recovers;
    }

-- a moment whose swap is a front of what is written
pub images_recover : (text : List (List ℕ)) (ts : List (List Primitive)) (moment : Moment) (rest : List ℕ)
    → IsFileOf moment.saved text → AllByRecursion IsWritable (joined ts) → FitOneByOne (joined ts) text
    → written (digest_of moment.saved) ts ≡ moment.swap ++ rest → ImagesRecover text ts moment
images_recover text ts moment rest file writable fit front saved swap image =
    subst (λ (l : List ℕ). ImageRecovers text ts moment saved l) (sym image.front)
    (subst (λ (l : List ℕ). ImageRecovers text ts moment l (take image.cut moment.swap)) (sym image.whole)
    (image_recovers text ts moment rest image.cut file writable fit front image.synced image.within))

-- what is written is no empty swap, and recovers to all of it
pub written_answers : (text : List (List ℕ)) (saved swap : List ℕ) (ts : List (List Primitive))
    → IsFileOf saved text → AllByRecursion IsWritable (joined ts) → FitOneByOne (joined ts) text → 0 < length ts
    → swap ≡ written (digest_of saved) ts → Answers saved swap (clean (length ts) (after_all (joined ts) text))
written_answers text saved swap ts file writable fit some bytes =
    let d = digest_of saved in
    let beside = written_recovers ts d text (length-digest saved) some writable fit in
    let long = ap length beside.0.spelled ∙ length-append (version_bytes ++ d) beside.0.rest in
    let head = length-append version_bytes d in (
      (λ e. omega (arith, ap length (sym bytes ∙ e), long, head, length-digest saved)),
      record {
        loaded = file.loaded;
        loads = file.loads;
        allowed = file.allowed;
        beside = subst (λ (t : List (List ℕ)). AnswersBeside t d swap (clean (length ts) (after_all (joined ts) text))) (sym file.text_is)
            (subst (λ (l : List ℕ). AnswersBeside text d l (clean (length ts) (after_all (joined ts) text))) (sym bytes) beside);
      },
    )
