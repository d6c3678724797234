use Rattle.sqlx_query.proofs.Chaining.{◌≡◌, List, [], ◌∷◌, refl, MutBor, proved, emp, id⊢, Lft, Share, flft, ◌++◌, a_type, dcons, dnil, named, inst_fn, Val, vptr, fact, Lfts, Shares, tables, ‵, raw, ◌⊛◌, some, later, ◌$◌, ◌∵◌, !, qed, move, drop, use1, use2, split, split3, join, pick, await, suffices, frame, group, enter, addr, stop, no_more, and_then, returns, alloc_all, pass_all, free_all, look_at, get, through, sets, lands_as, RattleType, yes, no, Is, shows, param, bounded, Laws, of_field, param_laws, row_shared, mut_ref_shared, mut_ref_field, mut_ref_laws, MutRef, NamedLft, mut_vals, mut_Tells, plain, nothing, heard, peeks, StrRefOf, str-laws, calls_at, Lasts, lasts, on_entry, triple_of, Stays, stay_dropped, Goes-dropped, Goes-spent_ref, ends_at, framed, result_row, result_laws, global_type, global_row, global_laws, global_loose, loose_lawful, rests, HandsBack, builder_row, builder_laws, lent_row, lent_laws, within, pairs, carried, turns, said, twice, owned, cut, joined, tells, told}
use Rattle.sqlx_query.specs.contracts.builder.QueryBuilder.push as f
use Rattle.sqlx_query.proofs.builder.QueryBuilder.push.Statement.{statement}
use Rattle.sqlx_query.proofs.builder.QueryBuilder.push.Code as code
use Rattle.sqlx_query.specs.contracts.builder.QueryBuilder.lend_push as g
use Rattle.sqlx_query.proofs.builder.QueryBuilder.lend_push.Met.{met as lends}
use Rattle.sqlx_query.specs.contracts.lent.hand_back as h
use Rattle.sqlx_query.proofs.lent.hand_back.Met.{met as hands}
use Rattle.sqlx_text.specs.contracts.out_of_memory.OutOfMemory.{the_row as error_row}
use Rattle.sqlx_text.proofs.out_of_memory.OutOfMemory.TheLaws.{the_row_laws as error_laws}

pub push_spec : {M : Type 1} → statement M
push_spec 𝓤 𝓛 𝓜 𝓡 wired T1 T2 T3 T4 T5 T6 T7 T8 T9 T10 T11 T12 L1 L2 L3 L4 L5 L6 L7 L8 L9 L10 L11 L12 g1 d1 g2 d2 g3 d3 g4 d4 g5 d5 g6 d6 g7 d7 g8 d8 g9 d9 g10 d10 g11 d11 g12 d12 g13 d13 g14 d14 g15 d15 d16 d17 d18 d19 d20 d21 d22 d23 m1 m2 m3 m4 m5 m6 m7 m8 m9 m10 m11 m12 m13 m14 m15 m16 m17 m18 m19 m20 m21 m22 m23 =
    let En = f.ended T1 T2 T3 T4 T5 T6 T7 T8 T9 T10 T11 T12 g1 d1 g2 d2 g3 d3 g4 d4 g5 d5 g6 d6 g7 d7 g8 d8 g9 d9 g10 d10 g11 d11 g12 d12 g13 d13 g14 d14 g15 d15 d16 d17 d18 d19 d20 d21 d22 d23 in let c = f.clauses T1 T2 T3 T4 T5 T6 T7 T8 T9 T10 T11 T12 g1 d1 g2 d2 g3 d3 g4 d4 g5 d5 g6 d6 g7 d7 g8 d8 g9 d9 g10 d10 g11 d11 g12 d12 g13 d13 g14 d14 g15 d15 d16 d17 d18 d19 d20 d21 d22 d23 𝓛 𝓜.mem 𝓡.returns in
    let R : RattleType = builder_row (param 0 T1) (param 1 T2) (param 2 T3) (param 3 T4) (param 4 T5) (param 5 T6) (param 6 T7) (param 7 T8) (param 8 T9) (param 9 T10) (param 10 T11) (param 11 T12) g1 g2 g3 g4 g5 g6 g7 g8 g9 g10 g11 g12 g13 g14 g15 in
    let Rl : Laws R = builder_laws (param 0 T1) (param 1 T2) (param 2 T3) (param 3 T4) (param 4 T5) (param 5 T6) (param 6 T7) (param 7 T8) (param 8 T9) (param 9 T10) (param 10 T11) (param 11 T12) g1 g2 g3 g4 g5 g6 g7 g8 g9 g10 g11 g12 g13 g14 g15 (param_laws 0 T1 L1) (param_laws 1 T2 L2) (param_laws 2 T3 L3) (param_laws 3 T4 L4) (param_laws 4 T5 L5) (param_laws 5 T6 L6) (param_laws 6 T7 L7) (param_laws 7 T8 L8) (param_laws 8 T9 L9) (param_laws 9 T10 L10) (param_laws 10 T11 L11) (param_laws 11 T12 L12) in
    let Held : Lft → RattleType = λ κ. lent_row (record { mir = named 0; lft = κ }) (param 0 T1) (param 1 T2) (param 2 T3) (param 3 T4) (param 4 T5) (param 5 T6) (param 6 T7) (param 7 T8) (param 8 T9) (param 9 T10) (param 10 T11) (param 11 T12) g1 g2 g3 g4 g5 g6 g7 g8 g9 g10 g11 g12 g13 g14 g15 in
    let Hl : (κ : Lft) → Laws (Held κ) = λ κ. lent_laws (record { mir = named 0; lft = κ }) (param 0 T1) (param 1 T2) (param 2 T3) (param 3 T4) (param 4 T5) (param 5 T6) (param 6 T7) (param 7 T8) (param 8 T9) (param 9 T10) (param 10 T11) (param 11 T12) g1 g2 g3 g4 g5 g6 g7 g8 g9 g10 g11 g12 g13 g14 g15 (param_laws 0 T1 L1) (param_laws 1 T2 L2) (param_laws 2 T3 L3) (param_laws 3 T4 L4) (param_laws 4 T5 L5) (param_laws 5 T6 L6) (param_laws 6 T7 L7) (param_laws 7 T8 L8) (param_laws 8 T9 L9) (param_laws 9 T10 L10) (param_laws 10 T11 L11) (param_laws 11 T12 L12) in
    let inst = bounded (a_type ∷ a_type ∷ a_type ∷ a_type ∷ a_type ∷ a_type ∷ a_type ∷ a_type ∷ a_type ∷ a_type ∷ a_type ∷ a_type ∷ []) (T1, (T2, (T3, (T4, (T5, (T6, (T7, (T8, (T9, (T10, (T11, (T12, tt)))))))))))) (dcons d1 (dcons d2 (dcons d3 (dcons d4 (dcons d5 (dcons d6 (dcons d7 (dcons d8 (dcons d9 (dcons d10 (dcons d11 (dcons d12 (dcons d13 (dcons d14 (dcons d15 (dcons d16 (dcons d17 (dcons d18 (dcons d19 (dcons d20 (dcons d21 (dcons d22 (dcons d23 (dnil)))))))))))))))))))))))) in let fn = inst_fn inst code.function in
    let hs : Stays En.signature.params En.kept = (stay_dropped _ no, (stay_dropped _ yes, (stay_dropped _ yes, tt))) in
    proved 𝓛 En hs c 𝓜 𝓡 (Goes-spent_ref 𝓛 14 (0 ∷ []) tt (plain (λ _. R)), (Goes-dropped 𝓛 14 (plain (λ _. global_row)) yes (λ κs x w. refl), (Goes-dropped 𝓛 14 (StrRefOf (1 ∷ []) tt) yes (λ κs x w. refl), tt)))
    (f.Key.name inst) fn (code.unfolded 𝓤 𝓛.H 𝓜 𝓡 wired (T1, (T2, (T3, (T4, (T5, (T6, (T7, (T8, (T9, (T10, (T11, (T12, tt)))))))))))) d1 d2 d3 d4 d5 d6 d7 d8 d9 d10 d11 d12 d13 d14 d15 d16 d17 d18 d19 d20 d21 d22 d23)
    (λ κs. (mut_vals, ((λ x. denote.Struct.Laws.val global_type global_laws x ∷ []), ((λ x. (str-laws (record { mir = named 1; lft = κs.1.0 })).val x ∷ []), tt))))
    (λ κs. (mut_Tells (named 0) κs.0 R, (denote.Struct.Laws.tells global_type global_laws, ((str-laws (record { mir = named 1; lft = κs.1.0 })).tells, tt)))) (λ κs qs bounds a n are.
    let κ = κs.0 in let q = qs.0 in let of : (Held κ).Denot → MutBor R.Denot = λ l. l.0 in
    let κm : Lfts 12 = (κs.1.1.0, (κs.1.1.1.0, (κs.1.1.1.1.0, (κs.1.1.1.1.1.0, (κs.1.1.1.1.1.1.0, (κs.1.1.1.1.1.1.1.0, (κs.1.1.1.1.1.1.1.1.0, (κs.1.1.1.1.1.1.1.1.1.0, (κs.1.1.1.1.1.1.1.1.1.1.0, (κs.1.1.1.1.1.1.1.1.1.1.1.0, (κs.1.1.1.1.1.1.1.1.1.1.1.1.0, (κs.1.1.1.1.1.1.1.1.1.1.1.1.1.0, tt)))))))))))) in let qm : Shares 12 = (qs.1.1.0, (qs.1.1.1.0, (qs.1.1.1.1.0, (qs.1.1.1.1.1.0, (qs.1.1.1.1.1.1.0, (qs.1.1.1.1.1.1.1.0, (qs.1.1.1.1.1.1.1.1.0, (qs.1.1.1.1.1.1.1.1.1.0, (qs.1.1.1.1.1.1.1.1.1.1.0, (qs.1.1.1.1.1.1.1.1.1.1.1.0, (qs.1.1.1.1.1.1.1.1.1.1.1.1.0, (qs.1.1.1.1.1.1.1.1.1.1.1.1.1.0, tt)))))))))))) in
    let mid : List (Lft × Share) = pairs 12 κm qm in let after : List (Lft × Share) = [] in
    let at_κ : NamedLft = record { mir = named 0; lft = κ } in let A : RattleType = param 9 T10 in
    let LentAnswer : RattleType = result_row (Held κ) error_row in let Answer : RattleType = result_row (MutRef (named 0) κ R) error_row in
    let G = triple_of 𝓛 (g.signature T1 T2 T3 T4 T5 T6 T7 T8 T9 T10 T11 T12 g1 d1 g2 d2 g3 d3 g4 d4 g5 d5 g6 d6 g7 d7 g8 d8 g9 d9 g10 d10 g11 d11 g12 d12 g13 d13 g14 d14 g15 d15 d16 d17 d18 d19 d20 d21 d22 d23) (g.spec T1 T2 T3 T4 T5 T6 T7 T8 T9 T10 T11 T12 g1 d1 g2 d2 g3 d3 g4 d4 g5 d5 g6 d6 g7 d7 g8 d8 g9 d9 g10 d10 g11 d11 g12 d12 g13 d13 g14 d14 g15 d15 d16 d17 d18 d19 d20 d21 d22 d23 𝓛 𝓜.mem 𝓡.returns) in let Gh = triple_of 𝓛 (h.signature T1 T2 T3 T4 T5 T6 T7 T8 T9 T10 T11 T12 g1 d1 g2 d2 g3 d3 g4 d4 g5 d5 g6 d6 g7 d7 g8 d8 g9 d9 g10 d10 g11 d11 g12 d12 g13 d13 g14 d14 g15 d15 d16 d17 d18 d19 d20 d21 d22 d23) (h.spec T1 T2 T3 T4 T5 T6 T7 T8 T9 T10 T11 T12 g1 d1 g2 d2 g3 d3 g4 d4 g5 d5 g6 d6 g7 d7 g8 d8 g9 d9 g10 d10 g11 d11 g12 d12 g13 d13 g14 d14 g15 d15 d16 d17 d18 d19 d20 d21 d22 d23 𝓛 𝓜.mem 𝓡.returns) in
    let us : List Val × (List Val × (List Val × Unit {0})) = (vptr a.0.ref_ptr.0 a.0.ref_ptr.1 ∷ [], (denote.Struct.Laws.val global_type global_laws a.1.0 ∷ [], ((str-laws (record { mir = named 1; lft = κs.1.0 })).val a.1.1.0 ∷ [], tt))) in
    let z : G.Ghost = ((κs, qs, bounds, a, us), n) in
    let φs : List (Type 0) = within (T1 ∷ T2 ∷ T3 ∷ T4 ∷ T5 ∷ T6 ∷ T7 ∷ T8 ∷ T9 ∷ T10 ∷ T11 ∷ T12 ∷ []) κm in
    qed 𝓛 (raw (on_entry 𝓛 En.signature κs qs a us) ∷ raw ((c κs a).requires n) ∷ []) ∵ move ! (1 ∷ []) $
    use1 𝓛 (raw (said 𝓛 φs (fact 𝓤 (a.0.now.built ≡ mathlib.Core.Bool.false))) ⊛ raw (said 𝓛 φs (emp 𝓤))) (twice 𝓛 φs (fact 𝓤 (a.0.now.built ≡ mathlib.Core.Bool.false))) $ split ! $
    move ! (2 ∷ 0 ∷ []) $ use2 𝓛 (raw (G.pre z)) (id⊢ 𝓤 _) $
    enter ! _ _ _ _ _ $ alloc_all ! (λ l. pass_all ! refl ((tt, tt), (((loose_lawful global_type global_loose 𝓛).typed a.1.0 _ are.1.0).0, ((((str-laws (record { mir = named 1; lft = κs.1.0 })).lawful 𝓛).typed a.1.1.0 _ are.1.1.0).0, tt))) $
    sets ! (addr ! (through ! refl (stop !))) refl (tt, tt) $
    calls_at ! (framed 𝓤 𝓛.H 𝓜 (tables 𝓤 𝓛.H 𝓜 𝓡 𝓡.env)) G (lends 𝓤 𝓛 𝓜 𝓡 (code.calls-sqlx_query::builder::QueryBuilder::lend_push 𝓡.env wired) T1 T2 T3 T4 T5 T6 T7 T8 T9 T10 T11 T12 L1 L2 L3 L4 L5 L6 L7 L8 L9 L10 L11 L12 g1 d1 g2 d2 g3 d3 g4 d4 g5 d5 g6 d6 g7 d7 g8 d8 g9 d9 g10 d10 g11 d11 g12 d12 g13 d13 g14 d14 g15 d15 d16 d17 d18 d19 d20 d21 d22 d23 m1 m2 m3 m4 m5 m6 m7 m8 m9 m10 m11 m12 m13 m14 m15 m16 m17 m18 m19 m20 m21 m22 m23) z
    (and_then ! (get ! refl) (and_then ! (get ! refl) (and_then ! (get ! refl) (no_more !)))) (λ v.
    use1 𝓛 (later (some (λ (lent : LentAnswer.Denot). ((‵ (flft κs.0 qs.0) ⊛ ‵ (flft κs.1.0 qs.1.0) ⊛ raw (owned 𝓛 (mid ++ after))) ⊛ ‵ (LentAnswer.own_val lent (v ∷ []))) ⊛
    some (λ (ws : Lasts (g.ended T1 T2 T3 T4 T5 T6 T7 T8 T9 T10 T11 T12 g1 d1 g2 d2 g3 d3 g4 d4 g5 d5 g6 d6 g7 d7 g8 d8 g9 d9 g10 d10 g11 d11 g12 d12 g13 d13 g14 d14 g15 d15 d16 d17 d18 d19 d20 d21 d22 d23) κs a). ‵ (lasts (g.ended T1 T2 T3 T4 T5 T6 T7 T8 T9 T10 T11 T12 g1 d1 g2 d2 g3 d3 g4 d4 g5 d5 g6 d6 g7 d7 g8 d8 g9 d9 g10 d10 g11 d11 g12 d12 g13 d13 g14 d14 g15 d15 d16 d17 d18 d19 d20 d21 d22 d23) κs a ws) ⊛ ‵ (rests A a.0 (λ l. l.0.ghost_name) lent) ⊛ raw (fact 𝓤 _) ⊛ raw (fact 𝓤 _) ⊛ raw (fact 𝓤 _))))) (id⊢ 𝓤 _) $
    await ! tt $ pick ! (λ lent. split ! $ split ! $ split3 ! $ move ! (2 ∷ []) $ use1 𝓛 (raw (owned 𝓛 mid) ⊛ raw (owned 𝓛 after)) (cut 𝓛 mid after) $ split ! $
    move ! (4 ∷ []) $ peeks ! LentAnswer (Is LentAnswer) (shows 𝓛 LentAnswer) lent (v ∷ []) (λ typed. lands_as ! refl refl (((result_laws (Held κ) error_row (Hl κ) error_laws).lawful 𝓛).typed lent (v ∷ []) typed).0 $
    move ! (5 ∷ []) $ pick ! (λ ws. split ! $ drop ! $ split ! $ move ! (1 ∷ []) $ split ! $ heard ! _ (λ c_same. split ! $ heard ! _ (λ c_ok. heard ! _ (λ c_unbuilt.
    let z' : Gh.Ghost = (((κ, κm), (q, qm), bounds, (lent, tt), (v ∷ [], tt)), tt) in
    nothing ! $ move ! (2 ∷ 0 ∷ []) $ join ! $ move ! (4 ∷ 2 ∷ []) $ join ! $ move ! (0 ∷ 1 ∷ []) $ join ! $ move ! (0 ∷ 4 ∷ []) $ use2 𝓛 (raw (Gh.pre z')) (id⊢ 𝓤 _) $
    calls_at ! (framed 𝓤 𝓛.H 𝓜 (tables 𝓤 𝓛.H 𝓜 𝓡 𝓡.env)) Gh (hands 𝓤 𝓛 𝓜 𝓡 (code.calls-sqlx_query::lent::hand_back 𝓡.env wired) T1 T2 T3 T4 T5 T6 T7 T8 T9 T10 T11 T12 L1 L2 L3 L4 L5 L6 L7 L8 L9 L10 L11 L12 g1 d1 g2 d2 g3 d3 g4 d4 g5 d5 g6 d6 g7 d7 g8 d8 g9 d9 g10 d10 g11 d11 g12 d12 g13 d13 g14 d14 g15 d15 d16 d17 d18 d19 d20 d21 d22 d23 m1 m2 m3 m4 m5 m6 m7 m8 m9 m10 m11 m12 m13 m14 m15 m16 m17 m18 m19 m20 m21 m22 m23) z'
    (and_then ! (get ! refl) (no_more !)) (λ v'.
    use1 𝓛 (later (some (λ (r : Answer.Denot). ((‵ (flft κ q) ⊛ raw (owned 𝓛 mid)) ⊛ ‵ (Answer.own_val r (v' ∷ []))) ⊛
    some (λ (ws : Lasts (h.ended T1 T2 T3 T4 T5 T6 T7 T8 T9 T10 T11 T12 g1 d1 g2 d2 g3 d3 g4 d4 g5 d5 g6 d6 g7 d7 g8 d8 g9 d9 g10 d10 g11 d11 g12 d12 g13 d13 g14 d14 g15 d15 d16 d17 d18 d19 d20 d21 d22 d23) (κ, κm) (lent, tt)). ‵ (lasts (h.ended T1 T2 T3 T4 T5 T6 T7 T8 T9 T10 T11 T12 g1 d1 g2 d2 g3 d3 g4 d4 g5 d5 g6 d6 g7 d7 g8 d8 g9 d9 g10 d10 g11 d11 g12 d12 g13 d13 g14 d14 g15 d15 d16 d17 d18 d19 d20 d21 d22 d23) (κ, κm) (lent, tt) ws) ⊛ raw (fact 𝓤 (HandsBack of lent r)))))) (id⊢ 𝓤 _) $
    await ! tt $ pick ! (λ r. split ! $ split ! $ split ! $
    move ! (2 ∷ []) $ peeks ! Answer (Is Answer) (shows 𝓛 Answer) r (v' ∷ []) (λ typed'. lands_as ! refl refl (((result_laws (MutRef (named 0) κ R) error_row (of_field (mut_ref_field at_κ R tt) (mut_ref_laws at_κ R tt) refl (mut_ref_shared at_κ R tt (row_shared R Rl))) error_laws).lawful 𝓛).typed r (v' ∷ []) typed').0 $
    move ! (3 ∷ []) $ pick ! (λ ws'. split ! $ drop ! $ heard ! _ (λ back.
    returns ! (look_at ! 0 refl) $ free_all ! refl $
    move ! (3 ∷ []) $ use1 𝓛 (‵ (rests A a.0 (λ b. b.ghost_name) r)) (turns 𝓛 A of a.0 lent r back) $
    suffices ! _ (ends_at 𝓛 En hs c z v' r (tt, (tt, (tt, tt))) (tt, (tt, (tt, tt)))) $
    move ! (3 ∷ 4 ∷ []) $ use2 𝓛 (raw (owned 𝓛 (mid ++ after))) (joined 𝓛 mid after) $ move ! (4 ∷ 0 ∷ []) $ join ! $ move ! (3 ∷ 0 ∷ []) $ join ! $ nothing ! $ nothing ! $ join ! $ nothing ! $ join ! $ nothing ! $ join ! $ move ! (1 ∷ 0 ∷ 3 ∷ []) $ group ! 3 $ frame ! $ frame ! $
    tells ! (carried of lent r back _ _ c_same) $ tells ! (carried of lent r back _ _ c_ok) $ told ! (carried of lent r back _ _ c_unbuilt)))))))))))))))
