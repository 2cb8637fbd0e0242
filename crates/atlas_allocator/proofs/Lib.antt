pub mod AtlasLemmas
