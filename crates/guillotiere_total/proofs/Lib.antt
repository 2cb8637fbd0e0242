pub mod PageAnswers
