-- The calls that are out are listed one by one.
use Rattle.std.proofs.Common.{◌≡◌, ◌<◌, ◌≤◌, ◌+◌, ◌∙◌, ℕ, suc, List, [], ◌∷◌, ◌++◌, arith, drop, get_or, inl, inr, length, length-set, map, refl, set, subst, sym, ap}
use Rattle.std.proofs.lemmas.List.{drop_more}
use Rattle.disk_calls.proofs.OldestCalls.{after_pushed, oldest_pushed}
use Rattle.disk_calls.specs.Calls.{AllCalls}
use Rattle.disk_calls.specs.Oldest.{AreOldestFrom, IsNoneFrom, IsOldestFrom, after_last}
use Rattle.disk_calls.specs.declared.oldest.Listed.{Listed}
use Rattle.machine.specs.State.{DeviceState}
use Rattle.c_handle.specs.Listed.{AreListed, listed_call}
use Rattle.c_handle.specs.declared.outside.Call.{Call}

-- The oldest calls so far are at the front of the list, and the next one has a number from this one on.
pub record AreSoFar (devices : List DeviceState) (calls : AllCalls) (old now : List Call) (number at : ℕ) : Type 0 where
  pub listed : List Listed
  pub oldest : AreOldestFrom calls 0 listed
  pub are : now ≡ map (listed_call devices) listed ++ drop (length listed) old
  pub long : length listed ≡ at
  pub next : number ≡ after_last 0 listed
  pub same : length now ≡ length old

pub none_yet : (devices : List DeviceState) (calls : AllCalls) (old : List Call) → AreSoFar devices calls old old 0 0
none_yet devices calls old = record { listed = []; oldest = tt; are = refl; long = refl; next = refl; same = refl }

put_at : (xs ys : List Call) (y z : Call) → set (xs ++ y ∷ ys) (length xs) z ≡ (xs ++ z ∷ []) ++ ys
put_at [] ys y z = refl
put_at (x ∷ xs) ys y z = ap (λ (l : List Call). x ∷ l) (put_at xs ys y z)

mapped_more : (devices : List DeviceState) (ls : List Listed) (l : Listed) → map (listed_call devices) (ls ++ l ∷ []) ≡ map (listed_call devices) ls ++ listed_call devices l ∷ []
mapped_more devices [] l = refl
mapped_more devices (x ∷ ls) l = ap (λ (cs : List Call). listed_call devices x ∷ cs) (mapped_more devices ls l)

mapped_long : (devices : List DeviceState) (ls : List Listed) → length (map (listed_call devices) ls) ≡ length ls
mapped_long devices [] = refl
mapped_long devices (l ∷ ls) = ap suc (mapped_long devices ls)

pushed_long : (ls : List Listed) (l : Listed) → length (ls ++ l ∷ []) ≡ length ls + 1
pushed_long [] l = refl
pushed_long (x ∷ ls) l = let more = pushed_long ls l in omega (arith, more)

one_put : (devices : List DeviceState) (old : List Call) (ls : List Listed) (l : Listed) (d : Call) → length ls < length old
    → set (map (listed_call devices) ls ++ drop (length ls) old) (length ls) (listed_call devices l) ≡ map (listed_call devices) (ls ++ l ∷ []) ++ drop (length (ls ++ l ∷ [])) old
one_put devices old ls l d below =
    let front = map (listed_call devices) ls in
    let long : length front ≡ length ls = mapped_long devices ls in
    let rest : drop (length ls) old ≡ get_or old (length ls) d ∷ drop (length ls + 1) old = drop_more old (length ls) d below in
    let put : set (front ++ get_or old (length ls) d ∷ drop (length ls + 1) old) (length front) (listed_call devices l) ≡ (front ++ listed_call devices l ∷ []) ++ drop (length ls + 1) old = put_at front (drop (length ls + 1) old) (get_or old (length ls) d) (listed_call devices l) in
    ap (λ (tail : List Call). set (front ++ tail) (length ls) (listed_call devices l)) rest
    ∙ subst (λ (n : ℕ). set (front ++ get_or old (length ls) d ∷ drop (length ls + 1) old) n (listed_call devices l) ≡ (front ++ listed_call devices l ∷ []) ++ drop (length ls + 1) old) long put
    ∙ ap (λ (cs : List Call). cs ++ drop (length ls + 1) old) (sym (mapped_more devices ls l)) ∙ ap (λ (n : ℕ). map (listed_call devices) (ls ++ l ∷ []) ++ drop n old) (sym (pushed_long ls l))

pub one_more : (devices : List DeviceState) (calls : AllCalls) (old now : List Call) (number at : ℕ) (l : Listed) (c d : Call) → at < length old → AreSoFar devices calls old now number at → IsOldestFrom calls number l → c ≡ listed_call devices l
    → AreSoFar devices calls old (set now at c) (l.out.number + 1) (at + 1)
one_more devices calls old now number at l c d below so is told = record {
  listed = so.listed ++ l ∷ [];
  oldest = oldest_pushed calls 0 so.listed l so.oldest (subst (λ (n : ℕ). IsOldestFrom calls n l) so.next is);
  are =
      let there : length so.listed < length old = omega (arith, below, so.long) in
      ap (λ (cs : List Call). set cs at c) so.are ∙ ap (λ (x : Call). set (map (listed_call devices) so.listed ++ drop (length so.listed) old) at x) told
      ∙ ap (λ (n : ℕ). set (map (listed_call devices) so.listed ++ drop (length so.listed) old) n (listed_call devices l)) (sym so.long) ∙ one_put devices old so.listed l d there;
  long = let more = pushed_long so.listed l in omega (arith, more, so.long);
  next = sym (after_pushed 0 so.listed l);
  same = length-set now at c ∙ so.same;
}

pub ends_full : (devices : List DeviceState) (calls : AllCalls) (old now : List Call) (number at : ℕ) → length old ≤ at → at ≤ length old → AreSoFar devices calls old now number at → AreListed devices calls old now
ends_full devices calls old now number at past most so = record { listed = so.listed; oldest = so.oldest; are = so.are; all = inl (omega (arith, so.long, past, most)) }

pub ends_none : (devices : List DeviceState) (calls : AllCalls) (old now : List Call) (number at : ℕ) → AreSoFar devices calls old now number at → IsNoneFrom calls number → AreListed devices calls old now
ends_none devices calls old now number at so none = record { listed = so.listed; oldest = so.oldest; are = so.are; all = inr (subst (IsNoneFrom calls) so.next none) }
