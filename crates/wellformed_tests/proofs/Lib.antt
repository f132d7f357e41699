mod Untied
