mod DirectoryLemmas
mod UnreadLemmas
