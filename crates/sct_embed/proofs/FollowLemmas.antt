-- The entries of a snapshot are put in one after another.
use Rattle.std.proofs.Common.{◌≡◌, ◌∙◌, refl, ap, sym, subst, ℕ, List, [], ◌∷◌, ◌++◌, length, take, drop, append_assoc}
use Rattle.std.proofs.lemmas.List.{append-nil, take-append-drop}
use Rattle.sct_delta.specs.Entries.{Placed, IsArrivals}
use Rattle.sct_site.specs.Cores.{Core, core_pushed}
use Rattle.sct_site.proofs.NextLemmas.{next_number}
use Rattle.sct_snapshot.specs.Moments.{IsEarlier}
use Rattle.sct_snapshot.proofs.BlockLemmas.{front_whole}
use Rattle.sct_embed.specs.Following.{ArePartlyPut}

-- the site with entries after its own
abbrev pub core_with : Core → List Placed → Core
core_with core es = record { number = core.number; group = core.group; arrivals = core.arrivals ++ es }

-- some entries are in, and the rest waits
pub record ArePut (core now : Core) (all rest : List Placed) : Type 0 where
  pub done : List Placed
  pub parts : all ≡ done ++ rest
  pub put : now ≡ core_with core done

pub put_first : (core : Core) (all : List Placed) → ArePut core core all all
put_first core all = record { done = []; parts = refl; put = ap (λ (l : List Placed). record { number = core.number; group = core.group; arrivals = l }) (sym (append-nil core.arrivals)) }

pub put_more : (core now later : Core) (all rest after : List Placed) (e : Placed) → IsArrivals (core.arrivals ++ all) → ArePut core now all rest → rest ≡ e ∷ after
    → later ≡ core_pushed now e.origin e.message → ArePut core later all after
put_more core now later all rest after e arrive was is pushed =
    let in_order : IsArrivals ((core.arrivals ++ was.done) ++ e ∷ after)
    = subst IsArrivals (ap (λ (l : List Placed). core.arrivals ++ l) (was.parts ∙ ap (λ (l : List Placed). was.done ++ l) is) ∙ sym (append_assoc core.arrivals was.done (e ∷ after))) arrive in
    record {
      done = was.done ++ e ∷ [];
      parts = was.parts ∙ ap (λ (l : List Placed). was.done ++ l) is ∙ sym (append_assoc was.done (e ∷ []) after);
      put = pushed
          ∙ ap (λ (c : Core). core_pushed c e.origin e.message) was.put
          ∙ ap (λ (x : Placed). record { number = core.number; group = core.group; arrivals = (core.arrivals ++ was.done) ++ x ∷ [] }) (next_number (core.arrivals ++ was.done) after e in_order)
          ∙ ap (λ (l : List Placed). record { number = core.number; group = core.group; arrivals = l }) (append_assoc core.arrivals was.done (e ∷ []));
    }

pub put_all : (core now : Core) (all rest : List Placed) → ArePut core now all rest → rest ≡ [] → now ≡ core_with core all
put_all core now all rest was none =
    was.put ∙ ap (core_with core) (sym (was.parts ∙ ap (λ (l : List Placed). was.done ++ l) none ∙ append-nil was.done))

take_front : (xs ys : List Placed) → take (length xs) (xs ++ ys) ≡ xs
take_front [] ys = refl
take_front (x ∷ xs) ys = ap (λ (l : List Placed). x ∷ l) (take_front xs ys)

pub put_some : (core now : Core) (all rest : List Placed) → ArePut core now all rest → ArePartlyPut core all now
put_some core now all rest was = record {
  count = length was.done;
  put = was.put ∙ ap (core_with core) (sym (ap (take (length was.done)) was.parts ∙ take_front was.done rest));
}

-- ---- a later moment

pub whole : (core later now : Core) (es : List Placed) → IsEarlier core later → core.arrivals ++ es ≡ later.arrivals → now ≡ core_with core es → now ≡ later
whole core later now es was all is =
    is ∙ (λ i. record { number = was.number i; group = was.group i; arrivals = all i })

pub earlier_partly : (core later now : Core) (es : List Placed) → IsEarlier core later → core.arrivals ++ es ≡ later.arrivals → ArePartlyPut core es now → IsEarlier now later
earlier_partly core later now es was all partly = record {
  number = ap (λ (c : Core). c.number) partly.put ∙ was.number;
  group = ap (λ (c : Core). c.group) partly.put ∙ was.group;
  arrivals = (
    drop partly.count es,
    ap (λ (c : Core). c.arrivals ++ drop partly.count es) partly.put
        ∙ append_assoc core.arrivals (take partly.count es) (drop partly.count es)
        ∙ ap (λ (l : List Placed). core.arrivals ++ l) (take-append-drop partly.count es)
        ∙ all,
  );
}

-- what is left of arrivals after as many as there are goes on from them
pub goes_on : (core later : Core) (n : ℕ) (es : List Placed) → IsEarlier core later → n ≡ length core.arrivals → es ≡ drop n later.arrivals → core.arrivals ++ es ≡ later.arrivals
goes_on core later n es was len is = front_whole core.arrivals later.arrivals es n was.arrivals len is

-- a site that holds nothing is each site of its number and group, earlier
pub earlier_opened : (core later : Core) (number group : ℕ) → number ≡ later.number → group ≡ later.group → core ≡ record { number = number; group = group; arrivals = [] } → IsEarlier core later
earlier_opened core later number group one same is = record {
  number = ap (λ (c : Core). c.number) is ∙ one;
  group = ap (λ (c : Core). c.group) is ∙ same;
  arrivals = (later.arrivals, ap (λ (c : Core). c.arrivals ++ later.arrivals) is);
}
