-- A session up to some line.
use Rattle.std.proofs.Common.{◌≡◌, inl, inr, ℕ, ℤ, length, Bool, true, false, Option, None, Some, List, [], ◌∷◌, ◌++◌, codes, refl, sym, ap, ◌∙◌, subst, append_assoc, append-nil, arith}
use Rattle.std.proofs.lemmas.Bool.{true≢false}
use Rattle.std.proofs.lemmas.Bool.Decides.{nat_tests}
use Rattle.std.specs.Prelude.{◌==◌, ◌⊎◌, if◌then◌else◌}
use Rattle.std.specs.Str.Lines.{lines}
use Rattle.std.specs.Io.KnownBytes.{Appends, Keeps}
use Rattle.std.proofs.KnownBytes.{Appends-trans, Appends-nil}
use Rattle.std.proofs.lemmas.List.{flat_map_more}
use Rattle.std.proofs.lemmas.List.Sums.{fold-append}
use Rattle.cas_io.specs.Streams.{AppendsFront}
use Rattle.cas_render.specs.declared.reply.Failure.TheVariants as failure
use Rattle.cas_render.specs.declared.reply.Reply.{Reply}
use Rattle.cas_render.specs.declared.reply.Reply.TheVariants as reply
use Rattle.cas_render.specs.declared.reply.Verdict.{Verdict}
use Rattle.cas_render.specs.Text.{reply_text}
use Rattle.cas_words.specs.declared.words.ClockKind.{ClockKind}
use Rattle.cas_node.specs.declared.cause.Cause.{Cause}
use Rattle.cas_node.specs.declared.cause.Cause.TheVariants as cause
use Rattle.cas_node.specs.declared.script.PrintFault.{PrintFault}
use Rattle.cas_node.specs.declared.script.PrintFault.TheVariants as print
use Rattle.cas_disk.specs.Disk.{Disk, During, Image}
use Rattle.cas_lasting.specs.History.{History}
use Rattle.cas_node.specs.declared.upshot.Upshot.{Upshot}
use Rattle.cas_node.specs.Lines.{Answers, FlushesNone, NoneFlushes, Runs, Tells}
use Rattle.cas_node.specs.Text.{output, line_text}
use Rattle.cas_node.specs.Ran.{RanFrom, reply_cause, upshot_cause, verdict_cause, verdicts_cause, worse, worst, at_the_end, at_the_sink, for_memory}
use Rattle.cas_lasting.specs.Nodes.{State, GoesOnTo}
use Rattle.cas_lasting.proofs.Listing.{listing_twice, lists_nothing}
use Rattle.cas_node.specs.Inner.Serving.{IsKnownIn, Knows, ListsIf, MovesIf}
use Rattle.cas_node.specs.Inner.Turns.{IsEnd, IsToldSo, Turned, Printed, PrintedReply, StopsFor}

-- ---- text

pub want_text : reply_text (reply.Failed failure.Memory) ≡ codes "failed memory\n"
unfolding reply_text
want_text = refl

output-push : (os : List Upshot) (o : Upshot) → output os ++ line_text o.reply ≡ output (os ++ o ∷ [])
output-push os o = flat_map_more (λ (p : Upshot). line_text p.reply) [] os o

worst-push : (os : List Upshot) (o : Upshot) → worst (os ++ o ∷ []) ≡ worse (worst os) (upshot_cause o)
worst-push os o = fold-append (λ c q. worse c (upshot_cause q)) cause.Good os (o ∷ [])

pub empty_of : (xs : List ℕ) → (length xs == 0) ≡ true → xs ≡ []
empty_of [] e = refl
empty_of (x ∷ xs) e = grind (arith, nat_tests, e)

-- what is said of table files
verdict_told : (number : ℕ) (bad : Option ℕ) (others : Cause) → IsToldSo others → IsToldSo (verdict_cause number bad others)
verdict_told number None others told = told
verdict_told number (Some at) others told = tt

pub verdicts_told : (vs : List Verdict) → IsToldSo (verdicts_cause vs)
verdicts_told [] = tt
verdicts_told (v ∷ vs) = verdict_told v.number v.bad (verdicts_cause vs) (verdicts_told vs)

-- what a reply says, and what all say
pub reply_told : (r : Option Reply) → IsToldSo (reply_cause r)
reply_told None = tt
reply_told (Some reply.Done) = tt
reply_told (Some (reply.Wrote n)) = tt
reply_told (Some (reply.Rows rows shard front now)) = tt
reply_told (Some (reply.Flushed files)) = tt
reply_told (Some (reply.Verified verdicts)) = verdicts_told verdicts
reply_told (Some (reply.Status tables)) = tt
reply_told (Some (reply.Refused n)) = tt
reply_told (Some (reply.Failed failure.Memory)) = tt
reply_told (Some (reply.Failed failure.Stopped)) = tt
reply_told (Some (reply.Failed failure.Disk)) = tt
reply_told (Some (reply.Failed failure.Read)) = tt
reply_told (Some (reply.Failed (failure.Block n at))) = tt

either : (t : Bool) (a b : Cause) → IsToldSo a → IsToldSo b → IsToldSo (if t then b else a)
either true a b x y = y
either false a b x y = x

pub worse_told : (a b : Cause) → IsToldSo a → IsToldSo b → IsToldSo (worse a b)
worse_told a b x y = either _ a b x y

-- what came of a line says
pub upshot_told : (o : Upshot) → IsToldSo (upshot_cause o)
upshot_told o = either o.want (reply_cause o.reply) (worse (reply_cause o.reply) cause.Mem) (reply_told o.reply) (worse_told (reply_cause o.reply) cause.Mem (reply_told o.reply) tt)

pub told_ends : (a : Cause) → IsToldSo a → IsEnd a
told_ends cause.Good x = tt
told_ends cause.Refused x = tt
told_ends cause.Mem x = tt
told_ends cause.Write x = absurd x
told_ends cause.Words x = absurd x
told_ends cause.Read x = absurd x
told_ends cause.Disk x = absurd x
told_ends (cause.Bad name at) x = tt
told_ends (cause.TooLong taken) x = absurd x

pub told_no_write : (a : Cause) → IsToldSo a → a ≡ cause.Write → ⊥
told_no_write a x e = subst IsToldSo e x

cut_ends : (a : Cause) → IsToldSo a → IsEnd (worse a cause.Write)
cut_ends cause.Good x = tt
cut_ends cause.Refused x = tt
cut_ends cause.Mem x = tt
cut_ends cause.Write x = absurd x
cut_ends cause.Words x = absurd x
cut_ends cause.Read x = absurd x
cut_ends cause.Disk x = absurd x
cut_ends (cause.Bad name at) x = tt
cut_ends (cause.TooLong taken) x = absurd x

pub stop_ends : (fault : PrintFault) (a why : Cause) → IsToldSo a → StopsFor fault a why → IsEnd why
stop_ends print.Write a why x e = subst IsEnd (sym e) (cut_ends a x)
stop_ends print.Mem a why x e = subst IsEnd (sym e) tt

-- nothing more was written
kept : (old mid new : Option (List ℕ)) (bytes : List ℕ) → Appends old mid bytes → Keeps mid new → Appends old new bytes
kept None mid new bytes a k = tt
kept (Some xs) None new bytes a k = absurd a
kept (Some xs) (Some ys) None bytes a k = absurd k
kept (Some xs) (Some ys) (Some zs) bytes a k = k ∙ a

-- a folder that told what is read of it tells it still
pub tells_on : (step : Image → Image → Type 0) (d e : Disk) → During step d e → Tells d → Tells e
tells_on step d e call (c, reads) = call.tells c reads

-- one history after another
pub on_from : (h k l : History) (s t u : State) (d e f : Disk) → GoesOnTo h k s t d e → GoesOnTo k l t u e f → GoesOnTo h l s u d f
on_from h k l s t u d e f one two = record {
  stands = two.stands;
  lasts = λ found told lasts.
      let (now, so, explains) = one.lasts found told lasts in
      let (later, still, more) = two.lasts found now so in
      (later, still, λ openings explained. more openings (explains openings explained));
}

-- the lines up to a place were run one after another, and their replies are written
pub record SoFar (kind : ClockKind) (Gives : ℤ → Type 0) (first : History) (script rest : List ℕ) (old new : Option (List ℕ)) (now : History) (why : Cause) : Type 0 where
  pub run : List (List ℕ)
  pub upshots : List Upshot
  pub cut : run ++ lines rest ≡ lines script
  pub steps : Runs kind Gives first run upshots now
  pub written : Appends old new (output upshots)
  pub told : why ≡ worst upshots

module _ (kind : ClockKind) (Gives : ℤ → Type 0) where
  Runs-push : (s : History) (ls : List (List ℕ)) (os : List Upshot) (t : History) (l : List ℕ) (o : Upshot) (u : History)
      → Runs kind Gives s ls os t → Answers kind Gives t l o u → Runs kind Gives s (ls ++ l ∷ []) (os ++ o ∷ []) u
  Runs-push s [] [] t l o u h st = (u, subst (λ x. Answers kind Gives x l o u) h st, refl)
  Runs-push s [] (q ∷ os) t l o u h st = absurd h
  Runs-push s (m ∷ ls) [] t l o u h st = absurd h
  Runs-push s (m ∷ ls) (q ∷ os) t l o u h st = (h.0, h.1, Runs-push h.0 ls os t l o u h.2 st)

  -- the lines with one more, whatever came of writing its reply
  pub record Next (first : History) (script after : List ℕ) (old mid : Option (List ℕ)) (final : History) (why : Cause) (o : Upshot) : Type 0 where
    pub run : List (List ℕ)
    pub earlier : List Upshot
    pub cut : run ++ lines after ≡ lines script
    pub steps : Runs kind Gives first run (earlier ++ o ∷ []) final
    pub written : Appends old mid (output earlier)
    pub told : why ≡ worst (earlier ++ o ∷ [])

  next : (first : History) (script rest after line : List ℕ) (old mid : Option (List ℕ)) (s t : History) (before why : Cause) (o : Upshot)
      → SoFar kind Gives first script rest old mid s before → lines rest ≡ line ∷ lines after → Answers kind Gives s line o t
      → why ≡ worse before (upshot_cause o) → Next first script after old mid t why o
  next first script rest after line old mid s t before why o so cut step told = record {
    run = so.run ++ line ∷ [];
    earlier = so.upshots;
    cut = append_assoc so.run (line ∷ []) (lines after) ∙ ap (λ ls. so.run ++ ls) (sym cut) ∙ so.cut;
    steps = Runs-push first so.run so.upshots s line o t so.steps step;
    written = so.written;
    told = told ∙ ap (λ c. worse c (upshot_cause o)) so.told ∙ sym (worst-push so.upshots o);
  }

  -- all of the reply was written
  so_far_more : (first : History) (script rest after line : List ℕ) (old mid new : Option (List ℕ)) (s t : History) (before x why : Cause) (fault : Option PrintFault)
      → SoFar kind Gives first script rest old mid s before → lines rest ≡ line ∷ lines after → Turned kind Gives s line t mid new x fault
      → fault ≡ None → why ≡ worse before x → SoFar kind Gives first script after old new t why
  so_far_more first script rest after line old mid new s t before x why fault so cut turn none told =
      let n = next first script rest after line old mid s t before why turn.upshot so cut turn.answers (told ∙ ap (λ c. worse before c) turn.told) in
      record {
        run = n.run;
        upshots = n.earlier ++ turn.upshot ∷ [];
        cut = n.cut;
        steps = n.steps;
        written = subst (Appends old new) (output-push n.earlier turn.upshot) (whole turn.upshot.reply fault mid new _ n.written none turn.printed);
        told = n.told;
      }
    where
      whole : (r : Option Reply) (fault : Option PrintFault) (mid new : Option (List ℕ)) (bytes : List ℕ) → Appends old mid bytes → fault ≡ None → Printed fault r mid new
          → Appends old new (bytes ++ line_text r)
      whole None fault mid new bytes a none p = subst (Appends old new) (sym (append-nil bytes)) (kept old mid new bytes a p.1)
      whole (Some r) fault mid new bytes a none p = Appends-trans old mid new _ _ a (subst (λ f. PrintedReply f r mid new) none p)

  -- the run ends where a reply wasn't written
  stopped : (first : History) (script after : List ℕ) (old mid new : Option (List ℕ)) (t : History) (sofar why : Cause) (fault : PrintFault) (r : Option Reply) (o : Upshot)
      (whole : Option PrintFault) → o.reply ≡ r → Next first script after old mid t sofar o → whole ≡ Some fault → Printed whole r mid new → StopsFor fault sofar why
      → RanFrom first kind Gives script old new t why
  stopped first script after old mid new t sofar why fault None o whole is n e p h = absurd (none-is-some (sym p.0 ∙ e))
    where
      none-is-some : None ≡ Some fault → ⊥
      none-is-some x = cc
  stopped first script after old mid new t sofar why print.Write (Some r) o whole is n e p h =
      let front : AppendsFront mid new (reply_text r) = subst (λ f. PrintedReply f r mid new) e p in
      record {
        run = n.run;
        rest = lines after;
        upshots = n.earlier ++ o ∷ [];
        cut = n.cut;
        steps = n.steps;
        stop = at_the_sink;
        ended = record {
          earlier = n.earlier;
          last = r;
          want = o.want;
          are = ap (λ (q : Option Reply). n.earlier ++ record { reply = q; want = o.want } ∷ []) is;
          front = front.0;
          back = front.1;
          cut = front.2;
          written = Appends-trans old mid new _ _ n.written front.3;
          told = h ∙ ap (λ c. worse c cause.Write) n.told;
        };
      }
  stopped first script after old mid new t sofar why print.Mem (Some r) o whole is n e p h =
      let none : PrintedReply (Some print.Mem) r mid new = subst (λ f. PrintedReply f r mid new) e p in
      record {
        run = n.run;
        rest = lines after;
        upshots = n.earlier ++ o ∷ [];
        cut = n.cut;
        steps = n.steps;
        stop = for_memory;
        ended = record {
          earlier = n.earlier;
          last = r;
          want = o.want;
          are = ap (λ (q : Option Reply). n.earlier ++ record { reply = q; want = o.want } ∷ []) is;
          other = none.0;
          written = kept old mid new _ n.written none.1;
          told = h;
        };
      }

  ran_cut : (first : History) (script rest after line : List ℕ) (old mid new : Option (List ℕ)) (s t : History) (before x sofar why : Cause) (whole : Option PrintFault) (fault : PrintFault)
      → SoFar kind Gives first script rest old mid s before → lines rest ≡ line ∷ lines after → Turned kind Gives s line t mid new x whole
      → whole ≡ Some fault → sofar ≡ worse before x → StopsFor fault sofar why → RanFrom first kind Gives script old new t why
  ran_cut first script rest after line old mid new s t before x sofar why whole fault so cut turn e told h =
      stopped first script after old mid new t sofar why fault turn.upshot.reply turn.upshot whole refl
      (next first script rest after line old mid s t before sofar turn.upshot so cut turn.answers (told ∙ ap (λ c. worse before c) turn.told))
      e turn.printed h

  ran_whole : (first : History) (script rest : List ℕ) (old new : Option (List ℕ)) (s : History) (why : Cause)
      → SoFar kind Gives first script rest old new s why → rest ≡ [] → RanFrom first kind Gives script old new s why
  ran_whole first script rest old new s why so e = record {
    run = so.run;
    rest = [];
    upshots = so.upshots;
    cut = ap (λ ls. so.run ++ ls) (sym (ap lines e)) ∙ so.cut;
    steps = so.steps;
    stop = at_the_end;
    ended = record { all = refl; written = so.written; told = so.told };
  }

  -- nothing is left
  pub none_left : (rest : List ℕ) → (length rest == 0) ≡ true → rest ≡ []
  none_left [] e = refl
  none_left (x ∷ rest) e = let some : (length (x ∷ rest) == 0) ≡ false = grind (arith, nat_tests) in absurd (true≢false (sym e ∙ some))

  -- ---- of a store

  -- this came of a line, and of writing its reply
  pub turned : (s t : State) (d e : Disk) (line : List ℕ) (old new : Option (List ℕ)) (o : Upshot) (why : Cause) (fault : Option PrintFault) (If : History → Type 0)
      → MovesIf If (λ h after. Answers kind Gives h line o after) s t d e → why ≡ upshot_cause o → Printed fault o.reply old new
      → MovesIf If (λ h after. Turned kind Gives h line after old new why fault) s t d e
  turned s t d e line old new o why fault If moves told printed h stands so =
      let (after, answers, goes) = moves h stands so in
      (after, record { upshot = o; answers = answers; told = told; printed = printed }, goes)

  -- From whichever history the store stood for, the lines so far were run, where what flushes write is known; and of lines that flush nothing, the manifest lists
  -- the table files that it listed.
  pub record AllSoFar (s t : State) (old new : Disk) (script rest : List ℕ) (out now : Option (List ℕ)) (why : Cause) : Type 0 where
    pub ran : MovesIf (IsKnownIn kind Gives s old script) (λ h after. SoFar kind Gives h script rest out now after why) s t old new
    pub lists : ListsIf (λ h. NoneFlushes kind Gives h (lines script)) s old new

  pub all_so_far_none : (s : State) (d : Disk) (script : List ℕ) (out : Option (List ℕ)) → AllSoFar s s d d script script out out cause.Good
  all_so_far_none s d script out = record {
    ran = λ h stands known. (
      h,
      record { run = []; upshots = []; cut = refl; steps = refl; written = Appends-nil out; told = refl },
      record { stands = stands; lasts = λ found told lasts. (told, lasts, λ openings explained. explained) },
    );
    lists = λ h found told stands lasts none. lists_nothing s d h found told stands lasts;
  }

  -- behind some lines none of the others flushes anything
  none_behind : (h : History) (ls : List (List ℕ)) (os : List Upshot) (after : History) (rest : List (List ℕ)) → Runs kind Gives h ls os after
      → NoneFlushes kind Gives h (ls ++ rest) → NoneFlushes kind Gives after rest
  none_behind h [] [] after rest runs none = subst (λ k. NoneFlushes kind Gives k rest) (sym runs) none
  none_behind h [] (o ∷ os) after rest runs none = absurd runs
  none_behind h (l ∷ ls) [] after rest runs none = absurd runs
  none_behind h (l ∷ ls) (o ∷ os) after rest runs none = none_behind runs.0 ls os after rest runs.2 (none.1 o runs.0 runs.1)

  -- the next line flushes nothing then
  none_next : (h k : History) (script rest after line : List ℕ) (out now : Option (List ℕ)) (why : Cause) → SoFar kind Gives h script rest out now k why
      → lines rest ≡ line ∷ lines after → NoneFlushes kind Gives h (lines script) → FlushesNone kind Gives k line
  none_next h k script rest after line out now why so cut none =
      (none_behind h so.run so.upshots k (line ∷ lines after) so.steps
      (subst (NoneFlushes kind Gives h) (sym so.cut ∙ ap (λ ls. so.run ++ ls) cut) none)).0

  -- what it writes is known, if it does
  pub known_next : (s t : State) (d e : Disk) (script rest after line : List ℕ) (out now : Option (List ℕ)) (why : Cause) → AllSoFar s t d e script rest out now why
      → lines rest ≡ line ∷ lines after → (Tells d → Tells e) → (h k : History) → SoFar kind Gives h script rest out now k why → IsKnownIn kind Gives s d script h
      → Knows t e ⊎ FlushesNone kind Gives k line
  known_next s t d e script rest after line out now why so cut tells h k far (inl (told, (j, found, was, stands, lasts))) =
      let (l, others, goes) = so.ran j stands (inl (told, (j, found, was, stands, lasts))) in
      let (later, still, explains) = goes.lasts found was lasts in
      inl (tells told, (l, found, later, goes.stands, still))
  known_next s t d e script rest after line out now why so cut tells h k far (inr none) = inr (none_next h k script rest after line out now why far cut none)

  -- so far the manifest lists the same table files, and so it does through one turn more
  pub lists_more : (s t : State) (d e f : Disk) (script rest after line : List ℕ) (out now : Option (List ℕ)) (why : Cause) → AllSoFar s t d e script rest out now why
      → lines rest ≡ line ∷ lines after → ListsIf (λ h. FlushesNone kind Gives h line) t e f → ListsIf (λ h. NoneFlushes kind Gives h (lines script)) s d f
  lists_more s t d e f script rest after line out now why so cut more h found told stands lasts none =
      let (k, ran, goes) = so.ran h stands (inr none) in
      let (later, still, explains) = goes.lasts found told lasts in
      listing_twice d e f (so.lists h found told stands lasts none)
      (more k found later goes.stands still (none_next h k script rest after line out now why ran cut none))

  pub all_so_far_more : (s t u : State) (d e f : Disk) (script rest after line : List ℕ) (out mid now : Option (List ℕ)) (before x why : Cause) (fault : Option PrintFault)
      → AllSoFar s t d e script rest out mid before → lines rest ≡ line ∷ lines after → (Tells d → Tells e)
      → MovesIf (λ h. Knows t e ⊎ FlushesNone kind Gives h line) (λ h after. Turned kind Gives h line after mid now x fault) t u e f
      → ListsIf (λ h. FlushesNone kind Gives h line) t e f → fault ≡ None → why ≡ worse before x → AllSoFar s u d f script after out now why
  all_so_far_more s t u d e f script rest after line out mid now before x why fault so cut tells turn lists none told = record {
    ran = λ h stands known.
        let (k, far, one) = so.ran h stands known in
        let (l, turned, two) = turn k one.stands (known_next s t d e script rest after line out mid before so cut tells h k far known) in
        (l, so_far_more h script rest after line out mid now k l before x why fault far cut turned none told, on_from h k l s t u d e f one two);
    lists = lists_more s t d e f script rest after line out mid before so cut lists;
  }

  pub all_ran_cut : (s t u : State) (d e f : Disk) (script rest after line : List ℕ) (out mid now : Option (List ℕ)) (before x sofar why : Cause) (whole : Option PrintFault)
      (fault : PrintFault) → AllSoFar s t d e script rest out mid before → lines rest ≡ line ∷ lines after → (Tells d → Tells e)
      → MovesIf (λ h. Knows t e ⊎ FlushesNone kind Gives h line) (λ h after. Turned kind Gives h line after mid now x whole) t u e f
      → whole ≡ Some fault → sofar ≡ worse before x → StopsFor fault sofar why
      → MovesIf (IsKnownIn kind Gives s d script) (λ h after. RanFrom h kind Gives script out now after why) s u d f
  all_ran_cut s t u d e f script rest after line out mid now before x sofar why whole fault so cut tells turn some told ends h stands known =
      let (k, far, one) = so.ran h stands known in
      let (l, turned, two) = turn k one.stands (known_next s t d e script rest after line out mid before so cut tells h k far known) in
      (l, ran_cut h script rest after line out mid now k l before x sofar why whole fault far cut turned some told ends, on_from h k l s t u d e f one two)

  pub all_ran_whole : (s t : State) (d e : Disk) (script rest : List ℕ) (out now : Option (List ℕ)) (why : Cause)
      → AllSoFar s t d e script rest out now why → rest ≡ [] → MovesIf (IsKnownIn kind Gives s d script) (λ h after. RanFrom h kind Gives script out now after why) s t d e
  all_ran_whole s t d e script rest out now why so none h stands known =
      let (k, far, one) = so.ran h stands known in
      (k, ran_whole h script rest out now k why far none, one)
