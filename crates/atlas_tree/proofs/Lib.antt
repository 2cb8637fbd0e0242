pub mod FreeingLemmas
pub mod PlanLemmas
