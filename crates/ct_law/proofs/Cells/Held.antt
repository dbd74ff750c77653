-- The blocks: the serial disk with the operations of the commands that have begun and have no entry.
use Rattle.std.proofs.Common.{◌≡◌, ℕ, ◌⊎◌, Bool, true, false, List, [], ◌++◌, None, length, replicate, refl, sym, ap}
use Rattle.std.proofs.Common.{◌∙◌, subst, ⊎_elim}
use Rattle.std.proofs.lemmas.Bool.{cases_eq, cases_Bool, both_ways}
use Rattle.std.proofs.lemmas.List.{ext_get_or, length-replicate}
use Rattle.ct_word.specs.declared.names.LunNo.{LunNo}
use Rattle.ct_plan.specs.declared.operation.BlockOp.{BlockOp}
use Rattle.ct_plan.specs.Cells.{Progress, performed}
use Rattle.ct_book.specs.declared.work.Command.{Command}
use Rattle.ct_exec.specs.Controls.{ControlState, Disk, opening_disk}
use Rattle.ct_exec.specs.Executions.{refusal_of, plan_in}
use Rattle.ct_machine.specs.States.{Task, Stage, Waiting, Here, Granted, There, Over, without_task, with_task, at_stage}
use Rattle.ct_machine.specs.States.{queued}
use Rattle.ct_law.proofs.Lists.Tasks.{Has, has_without, without_has, has_with, with_has, with_itself, has_queued}
use Rattle.ct_law.proofs.Lists.Tasks.{queued_has}
use Rattle.ct_law.proofs.Cells.Blocks.{cell, uses, puts, start, Agree, Like, perform_like, unused_put, uses_front}
use Rattle.ct_law.proofs.Rows.Laws.{Apart, has_operations}

-- the places where a command goes, on a disk of n blocks
abbrev pub Uses : ℕ → Command → ℕ → Type 0
Uses n c lba = uses lba (plan_in n c) ≡ true

-- a command that came so far
abbrev pub at_now : ℕ → List (List ℕ) → List ℕ → Progress
at_now done blocks got = record { made = done; difference = None; cells = record { blocks = blocks; got = got } }

-- Alone on the serial disk the command would have come as far, with the same data, and the blocks where it goes would
-- be as they are.
pub record Running (n : ℕ) (disk : Disk) (blocks : List (List ℕ)) (c : Command) (done : ℕ) (got : List ℕ) : Type 0 where
  pub before : List BlockOp
  pub rest : List BlockOp
  pub parts : before ++ rest ≡ plan_in n c
  pub seen : Like (Uses n c) (at_now done blocks got) (performed c.out before (start disk.blocks))

abbrev pub IsRunning : ℕ → Disk → List (List ℕ) → Command → Stage → Type 0
IsRunning n disk blocks c Waiting = Unit {0}
IsRunning n disk blocks c (Here done got) = Running n disk blocks c done got
IsRunning n disk blocks c Granted = Running n disk blocks c 0 []
IsRunning n disk blocks c (There done got) = Running n disk blocks c done got
IsRunning n disk blocks c Over = Unit {0}

-- begun, and with no entry
abbrev pub is_active : Stage → Bool
is_active Waiting = false
is_active (Here done got) = true
is_active Granted = true
is_active (There done got) = true
is_active Over = false

-- nothing refuses a command that moves blocks
abbrev pub IsAllowedBy : ℕ → ControlState → Command → Type 0
IsAllowedBy n control c = (refusal_of control n c ≡ None) × (has_operations (plan_in n c) ≡ true)

abbrev pub IsSingle : List Task → Type 0
IsSingle tasks = (x y : Task) → Has tasks x → Has tasks y → x.no ≡ y.no → x ≡ y

-- the control is the serial disk's, and what is active is allowed by it; whatever the modifier
pub record Rules (n : ℕ) (disk : Disk) (now : ControlState) (tasks : List Task) : Type 0 where
  pub sized : length disk.blocks ≡ n
  pub control : now ≡ disk.control
  pub single : (x y : Task) → Has tasks x → Has tasks y → x.no ≡ y.no → x ≡ y
  pub allowed : (x : Task) → Has tasks x → is_active x.stage ≡ true →
      (refusal_of disk.control n x.command ≡ None) × (has_operations (plan_in n x.command) ≡ true)

-- the blocks after the serial disk; where the modifier says restricted
pub record Holds (n : ℕ) (disk : Disk) (blocks : List (List ℕ)) (tasks : List Task) : Type 0 where
  pub size : length blocks ≡ length disk.blocks
  pub running : (x : Task) → Has tasks x → IsRunning n disk blocks x.command x.stage
  pub apart : (x y : Task) → Has tasks x → Has tasks y → (x.no ≡ y.no → ⊥) → is_active x.stage ≡ true →
      is_active y.stage ≡ true → Apart (plan_in n x.command) (plan_in n y.command)
  pub outside : (lba : ℕ) →
      ((x : Task) → Has tasks x → is_active x.stage ≡ true → puts lba (plan_in n x.command) ≡ false) →
      cell blocks lba ≡ cell disk.blocks lba

-- where one goes the other doesn't put
pub not_put : (ps qs : List BlockOp) (l : ℕ) → Apart ps qs → uses l qs ≡ true → puts l ps ≡ false
not_put ps qs l a u = go (puts l ps) refl
  where
    go : (t : Bool) → puts l ps ≡ t → puts l ps ≡ false
    go true h = absurd (both_ways (uses l qs) (a.first l h) u)
    go false h = h

pub turned : (ps qs : List BlockOp) → Apart ps qs → Apart qs ps
turned ps qs a = record { first = a.second; second = a.first }

-- The blocks and the serial disk change where this command doesn't go.
still : (n : ℕ) (disk now : Disk) (blocks blocks' : List (List ℕ)) (c : Command) (done : ℕ) (got : List ℕ) →
    length blocks' ≡ length blocks → length now.blocks ≡ length disk.blocks →
    ((l : ℕ) → Uses n c l → cell blocks' l ≡ cell blocks l) →
    ((l : ℕ) → Uses n c l → cell now.blocks l ≡ cell disk.blocks l) →
    Running n disk blocks c done got → Running n now blocks' c done got
still n disk now blocks blocks' c done got sb sd eb ed h = record {
  before = h.before;
  rest = h.rest;
  parts = h.parts;
  seen =
      let within : (l : ℕ) → uses l h.before ≡ true → Uses n c l =
      λ l u. subst (λ ops. uses l ops ≡ true) h.parts (uses_front l h.before h.rest u) in
      let same : Agree (Uses n c) disk.blocks now.blocks = record { size = sym sd; at = λ l u. sym (ed l u) } in
      let p = perform_like (Uses n c) c.out h.before (start disk.blocks) (start now.blocks) within refl same in
      record {
        made = h.seen.made ∙ p.made;
        got = h.seen.got ∙ p.got;
        difference = h.seen.difference ∙ p.difference;
        blocks = record {
          size = sb ∙ h.seen.blocks.size ∙ p.blocks.size;
          at = λ l u. eb l u ∙ h.seen.blocks.at l u
              ∙ p.blocks.at l u;
        };
      };
}

running_apart : (n : ℕ) (disk now : Disk) (blocks blocks' : List (List ℕ)) (c : Command) (stage : Stage) →
    length blocks' ≡ length blocks → length now.blocks ≡ length disk.blocks →
    ((l : ℕ) → is_active stage ≡ true → Uses n c l → cell blocks' l ≡ cell blocks l) →
    ((l : ℕ) → is_active stage ≡ true → Uses n c l → cell now.blocks l ≡ cell disk.blocks l) →
    IsRunning n disk blocks c stage → IsRunning n now blocks' c stage
running_apart n disk now blocks blocks' c Waiting sb sd eb ed h = tt
running_apart n disk now blocks blocks' c (Here done got) sb sd eb ed h =
    still n disk now blocks blocks' c done got sb sd (λ l. eb l refl) (λ l. ed l refl) h
running_apart n disk now blocks blocks' c Granted sb sd eb ed h =
    still n disk now blocks blocks' c 0 [] sb sd (λ l. eb l refl) (λ l. ed l refl) h
running_apart n disk now blocks blocks' c (There done got) sb sd eb ed h =
    still n disk now blocks blocks' c done got sb sd (λ l. eb l refl) (λ l. ed l refl) h
running_apart n disk now blocks blocks' c Over sb sd eb ed h = tt

-- a command takes the new stage: it moved, and the others are apart from it
abbrev pub Others : List Task → ℕ → Task → Type 0
Others tasks number y = Has tasks y × (y.no ≡ number → ⊥)

pub single_with : (tasks : List Task) (w : Task) → IsSingle tasks → (y z : Task) → Has (with_task w tasks) y →
    Has (with_task w tasks) z → y.no ≡ z.no → y ≡ z
single_with tasks w single y z m n e = ⊎_elim
    (λ (a : w ≡ y). ⊎_elim
    (λ (b : w ≡ z). sym a ∙ b)
    (λ (b : Others tasks w.no z). absurd (b.1 (sym e ∙ sym (ap (λ (i : Task). i.no) a)))) (has_with w tasks z n))
    (λ (a : Others tasks w.no y). ⊎_elim
    (λ (b : w ≡ z). absurd (a.1 (e ∙ sym (ap (λ (i : Task). i.no) b))))
    (λ (b : Others tasks w.no z). single y z a.0 b.0 e) (has_with w tasks z n))
    (has_with w tasks y m)

pub record Moves (n : ℕ) (disk now : Disk) (blocks blocks' : List (List ℕ)) (tasks : List Task) (x : Task)
    (stage : Stage) (touched : List BlockOp) : Type 0 where
  pub size : length blocks' ≡ length blocks
  pub disk_size : length now.blocks ≡ length disk.blocks
  -- where it doesn't put, all is as it was
  pub left : (l : ℕ) → puts l touched ≡ false → cell blocks' l ≡ cell blocks l
  pub disk_left : (l : ℕ) → puts l touched ≡ false → cell now.blocks l ≡ cell disk.blocks l
  pub apart : (y : Task) → Has tasks y → (y.no ≡ x.no → ⊥) → is_active y.stage ≡ true →
      Apart touched (plan_in n y.command)
  pub running : IsRunning n now blocks' x.command stage
  -- where it goes, what is left of it is on the serial disk, unless it is active; and it had been active only there
  pub used : is_active stage ≡ false → (l : ℕ) → uses l touched ≡ true → cell blocks' l ≡ cell now.blocks l
  pub own : is_active stage ≡ false → is_active x.stage ≡ true → (l : ℕ) → uses l touched ≡ false →
      puts l (plan_in n x.command) ≡ false
  pub whole : is_active stage ≡ true → touched ≡ plan_in n x.command

pub moves_to : (n : ℕ) (disk now : Disk) (blocks blocks' : List (List ℕ)) (tasks : List Task) (x : Task) (stage : Stage)
    (touched : List BlockOp) →
    Holds n disk blocks tasks → IsSingle tasks → Has tasks x → Moves n disk now blocks blocks' tasks x stage touched →
    Holds n now blocks' (with_task (at_stage stage x) tasks)
moves_to n disk now blocks blocks' tasks x stage touched h single hx m =
    let w : Task = at_stage stage x in
    let came : (y : Task) → Has (with_task w tasks) y → (w ≡ y) ⊎ Others tasks x.no y = λ y k. has_with w tasks y k in
    let here : Has (with_task w tasks) w = with_itself w tasks x hx refl in
    let within : (y : Task) → Others tasks x.no y → is_active y.stage ≡ true → (l : ℕ) → Uses n y.command l →
    puts l touched ≡ false =
    λ y o b l u. not_put touched (plan_in n y.command) l (m.apart y o.0 o.1 b) u in
    record {
      size = m.size ∙ h.size ∙ sym m.disk_size;
      running = λ y k. ⊎_elim
          (λ (e : w ≡ y). subst (λ (z : Task). IsRunning n now blocks' z.command z.stage) e m.running)
          (λ (o : Others tasks x.no y).
          running_apart n disk now blocks blocks' y.command y.stage m.size m.disk_size
          (λ l b u. m.left l (within y o b l u)) (λ l b u. m.disk_left l (within y o b l u)) (h.running y o.0))
          (came y k);
      apart = λ y z k j ne by bz. ⊎_elim
          (λ (a : w ≡ y). ⊎_elim
          (λ (b : w ≡ z). absurd (ne (ap (λ (i : Task). i.no) (sym a ∙ b))))
          (λ (b : Others tasks x.no z). subst (λ (i : Task). Apart (plan_in n i.command) (plan_in n z.command)) a
          (subst (λ ops. Apart ops (plan_in n z.command))
          (m.whole (subst (λ (i : Task). is_active i.stage ≡ true) (sym a) by)) (m.apart z b.0 b.1 bz))) (came z j))
          (λ (a : Others tasks x.no y). ⊎_elim
          (λ (b : w ≡ z). subst (λ (i : Task). Apart (plan_in n y.command) (plan_in n i.command)) b
          (turned _ _ (subst (λ ops. Apart ops (plan_in n y.command)) (m.whole (subst (λ (i : Task). is_active i.stage ≡ true) (sym b) bz)) (m.apart y a.0 a.1 by))))
          (λ (b : Others tasks x.no z). h.apart y z a.0 b.0 ne by bz) (came z j))
          (came y k);
      outside = λ l none.
          let before : puts l touched ≡ false → (is_active x.stage ≡ true → puts l (plan_in n x.command) ≡ false) →
          cell blocks' l ≡ cell now.blocks l =
          λ p q. m.left l p ∙ h.outside l (λ y k b. ⊎_elim
          (λ (e : y.no ≡ x.no). let same = single y x k hx e in
          subst (λ (z : Task). puts l (plan_in n z.command) ≡ false) (sym same)
          (q (subst (λ (z : Task). is_active z.stage ≡ true) same b)))
          (λ (ne : y.no ≡ x.no → ⊥). none y (with_has w tasks y k ne) b)
          (cases_eq y.no x.no)) ∙ sym (m.disk_left l p) in
          ⊎_elim
          (λ (a : is_active stage ≡ true). let p = none w here a in
          before (subst (λ ops. puts l ops ≡ false) (sym (m.whole a)) p) (λ b. p))
          (λ (a : is_active stage ≡ false). ⊎_elim
          (λ (u : uses l touched ≡ true). m.used a l u)
          (λ (u : uses l touched ≡ false). before (unused_put l touched u) (λ b. m.own a b l u))
          (cases_Bool (uses l touched)))
          (cases_Bool (is_active stage));
    }

-- the rules with another stage of a command, and another serial disk
pub rules_turn : (n : ℕ) (disk now : Disk) (control : ControlState) (tasks : List Task) (x : Task) (stage : Stage) →
    length now.blocks ≡ n → Rules n disk control tasks → Has tasks x →
    ((y : Task) → Has tasks y → (y.no ≡ x.no → ⊥) → is_active y.stage ≡ true →
    refusal_of now.control n y.command ≡ None) →
    (is_active stage ≡ true → IsAllowedBy n now.control x.command) →
    Rules n now now.control (with_task (at_stage stage x) tasks)
rules_turn n disk now control tasks x stage sized h hx others mine = record {
  sized = sized;
  control = refl;
  single = single_with tasks (at_stage stage x) h.single;
  allowed = λ y k a. ⊎_elim
      (λ (e : at_stage stage x ≡ y). subst (λ (z : Task). IsAllowedBy n now.control z.command) e
      (mine (subst (λ (z : Task). is_active z.stage ≡ true) (sym e) a)))
      (λ (o : Others tasks x.no y). (others y o.0 o.1 a, (h.allowed y o.0 a).1))
      (has_with (at_stage stage x) tasks y k);
}

-- with the same control
pub rules_stay : (n : ℕ) (disk now : Disk) (control : ControlState) (tasks : List Task) (x : Task) (stage : Stage) →
    length now.blocks ≡ length disk.blocks → Rules n disk control tasks → Has tasks x → now.control ≡ disk.control →
    (is_active stage ≡ true → IsAllowedBy n now.control x.command) →
    Rules n now control (with_task (at_stage stage x) tasks)
rules_stay n disk now control tasks x stage le h hx e mine =
    subst (λ k. Rules n now k (with_task (at_stage stage x) tasks)) (e ∙ sym h.control)
    (rules_turn n disk now control tasks x stage (le ∙ h.sized) h hx
    (λ y hy ne a. ap (λ k. refusal_of k n y.command) e ∙ (h.allowed y hy a).0) mine)

pub rules_removes : (n : ℕ) (disk : Disk) (control : ControlState) (tasks : List Task) (number : ℕ) →
    Rules n disk control tasks → Rules n disk control (without_task number tasks)
rules_removes n disk control tasks number h = record {
  sized = h.sized;
  control = h.control;
  single = λ x y k l. h.single x y (has_without number tasks x k).0 (has_without number tasks y l).0;
  allowed = λ x k. h.allowed x (has_without number tasks x k).0;
}

-- one that isn't active leaves the task set
pub removes : (n : ℕ) (disk : Disk) (blocks : List (List ℕ)) (tasks : List Task) (number : ℕ) →
    Holds n disk blocks tasks → ((x : Task) → Has tasks x → x.no ≡ number → is_active x.stage ≡ false) →
    Holds n disk blocks (without_task number tasks)
removes n disk blocks tasks number h over = record {
  size = h.size;
  running = λ x k. h.running x (has_without number tasks x k).0;
  apart = λ x y k l. h.apart x y (has_without number tasks x k).0 (has_without number tasks y l).0;
  outside = λ l none. h.outside l (λ y k b. ⊎_elim
      (λ (e : y.no ≡ number). absurd (both_ways (is_active y.stage) (over y k e) b))
      (λ (ne : y.no ≡ number → ⊥). none y (without_has number tasks y k ne) b)
      (cases_eq y.no number));
}

waits_inactive : (w y : Task) → w.stage ≡ Waiting → w ≡ y → is_active y.stage ≡ true → ⊥
waits_inactive w y st k b =
    both_ways (is_active y.stage) (subst (λ (z : Task). is_active z.stage ≡ false) k (ap is_active st)) b

-- one that waits enters
pub rules_in : (n : ℕ) (disk : Disk) (control : ControlState) (tasks : List Task) (w : Task) →
    Rules n disk control tasks → w.stage ≡ Waiting → ((y : Task) → Has tasks y → y.no ≡ w.no → ⊥) →
    Rules n disk control (queued w tasks)
rules_in n disk control tasks w h st new = record {
  sized = h.sized;
  control = h.control;
  single = λ y z m j e. ⊎_elim
      (λ (o : Has tasks y). ⊎_elim
      (λ (p : Has tasks z). h.single y z o p e)
      (λ (k : w ≡ z). absurd (new y o (e ∙ sym (ap (λ (i : Task). i.no) k)))) (has_queued w tasks z j))
      (λ (k : w ≡ y). ⊎_elim
      (λ (p : Has tasks z). absurd (new z p (sym e ∙ sym (ap (λ (i : Task). i.no) k))))
      (λ (j : w ≡ z). sym k ∙ j) (has_queued w tasks z j))
      (has_queued w tasks y m);
  allowed = λ y m a. ⊎_elim (λ (o : Has tasks y). h.allowed y o a) (λ (k : w ≡ y). absurd (waits_inactive w y st k a))
      (has_queued w tasks y m);
}

pub enters_held : (n : ℕ) (disk : Disk) (blocks : List (List ℕ)) (tasks : List Task) (w : Task) →
    Holds n disk blocks tasks → w.stage ≡ Waiting → Holds n disk blocks (queued w tasks)
enters_held n disk blocks tasks w h st =
    let came : (y : Task) → Has (queued w tasks) y → Has tasks y ⊎ (w ≡ y) = λ y k. has_queued w tasks y k in
    record {
      size = h.size;
      running = λ y m. ⊎_elim (λ (o : Has tasks y). h.running y o)
          (λ (e : w ≡ y). subst (λ (z : Task). IsRunning n disk blocks z.command z.stage) e
          (subst (IsRunning n disk blocks w.command) (sym st) tt)) (came y m);
      apart = λ y z m j ne by bz. ⊎_elim
          (λ (o : Has tasks y). ⊎_elim
          (λ (p : Has tasks z). h.apart y z o p ne by bz)
          (λ (k : w ≡ z). absurd (waits_inactive w z st k bz)) (came z j))
          (λ (k : w ≡ y). absurd (waits_inactive w y st k by)) (came y m);
      outside = λ l none. h.outside l (λ y o b. none y (queued_has w tasks y o) b);
    }

-- the control changes, and what is active stays allowed
pub rules_closes : (n : ℕ) (disk : Disk) (control : ControlState) (tasks : List Task) (now : ControlState) →
    Rules n disk control tasks →
    ((x : Task) → Has tasks x → is_active x.stage ≡ true → refusal_of now n x.command ≡ None) →
    Rules n (record { control = now; blocks = disk.blocks }) now tasks
rules_closes n disk control tasks now h ok = record {
  sized = h.sized;
  control = refl;
  single = h.single;
  allowed = λ x k a. (ok x k a, (h.allowed x k a).1);
}

pub closes_held : (n : ℕ) (disk : Disk) (blocks : List (List ℕ)) (tasks : List Task) (now : ControlState) →
    Holds n disk blocks tasks → Holds n (record { control = now; blocks = disk.blocks }) blocks tasks
closes_held n disk blocks tasks now h = record {
  size = h.size;
  running = λ x k. running_apart n disk
      (record { control = now; blocks = disk.blocks }) blocks blocks x.command x.stage refl refl (λ l b u. refl)
      (λ l b u. refl) (h.running x k);
  apart = h.apart;
  outside = h.outside;
}

-- where nothing is active the blocks are the serial disk's
pub idle_same : (n : ℕ) (disk : Disk) (blocks : List (List ℕ)) (tasks : List Task) → Holds n disk blocks tasks →
    ((x : Task) → Has tasks x → is_active x.stage ≡ false) → blocks ≡ disk.blocks
idle_same n disk blocks tasks h idle =
    ext_get_or [] blocks disk.blocks h.size
    (λ l w. h.outside l (λ x k b. absurd (both_ways (is_active x.stage) (idle x k) b)))

-- a unit as it is opened
pub opened_rules : (n : ℕ) (disk : Disk) → length disk.blocks ≡ n → Rules n disk disk.control []
opened_rules n disk sized = record {
  sized = sized;
  control = refl;
  single = λ x y k. absurd k;
  allowed = λ x k. absurd k;
}

pub opened_held : (n : ℕ) (disk : Disk) → Holds n disk disk.blocks []
opened_held n disk = record {
  size = refl;
  running = λ x k. absurd k;
  apart = λ x y k. absurd k;
  outside = λ l none. refl;
}

pub opened_size : (lun : LunNo) (n : ℕ) → length (opening_disk lun n).blocks ≡ n
opened_size lun n = length-replicate n (replicate 512 0)
